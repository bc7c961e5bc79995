-- Glushkov's theorem: the words of an expression are those for which the position automaton has a path. Beside `Words e` stands `Rest e k p`, what a word of e
-- has after its byte at the position p. Both are told by their next step: a word is empty, if e is nullable, or has first a byte at a position in First;
-- what is left after p is empty, if p is in Last, or has first a byte at a position in Follow. A path is one such step after the other.
--   PositionOf e k p, with first_in, last_in, at_in, follow_in: the positions of e are k + 1 .. k + size e
--   glushkov: a word is in the language exactly if the position automaton has a path for it
--   plus_words, plus_empty: the words of F+ are those of F·F*; it has the empty word exactly if F has
--   first_before_nothing, no_word_before_nothing: First(a·∅) = {1}, though a·∅ has no word
use mathlib.Core.Path.{◌≡◌, refl}
use mathlib.Core.Logic.{◌⊎◌, inl, inr, ◌↔◌}
use mathlib.Core.List.{List, [], ◌∷◌, ◌++◌}
use Prim.Native.Nat.{ℕ, zero, suc, ◌+◌, ◌≤◌, ◌<◌}
use native.Mathlib.Omega.{arith}
use Rattle.scope.specs.Bytes.{ByteSet}
use Rattle.scope.specs.Text.Re.{Re, none, eps, one, alt, cat, star, plus, size, Words, w_eps, w_one, w_left, w_right, w_cat, w_done, w_more, w_plus}
use Rattle.scope.specs.Positions.Sets.{Null, First, Last, Follow, At, Edge, Final, Path, end, to}

-- ---- positions

-- p is a position of e, where k positions stand to the left of e
abbrev pub PositionOf : Re → ℕ → ℕ → Type 0
PositionOf e k p = (k < p) × (p ≤ k + size e)

-- a position in First is one of e
pub first_in : (e : Re) (k p : ℕ) → First e k p → PositionOf e k p
first_in (one s) k p h = omega arith
first_in (alt e f) k p (inl h) = let r = first_in e k p h in omega arith
first_in (alt e f) k p (inr h) = let r = first_in f (k + size e) p h in omega arith
first_in (cat e f) k p (inl h) = let r = first_in e k p h in omega arith
first_in (cat e f) k p (inr h) = let r = first_in f (k + size e) p h.1 in omega arith
first_in (star e) k p h = first_in e k p h
first_in (plus e) k p h = first_in e k p h
first_in none k p h = elim h [ ]
first_in eps k p h = elim h [ ]

-- a position in Last is one of e
pub last_in : (e : Re) (k p : ℕ) → Last e k p → PositionOf e k p
last_in (one s) k p h = omega arith
last_in (alt e f) k p (inl h) = let r = last_in e k p h in omega arith
last_in (alt e f) k p (inr h) = let r = last_in f (k + size e) p h in omega arith
last_in (cat e f) k p (inl h) = let r = last_in f (k + size e) p h in omega arith
last_in (cat e f) k p (inr h) = let r = last_in e k p h.1 in omega arith
last_in (star e) k p h = last_in e k p h
last_in (plus e) k p h = last_in e k p h
last_in none k p h = elim h [ ]
last_in eps k p h = elim h [ ]

-- a position that holds a byte is one of e
pub at_in : (e : Re) (k p b : ℕ) → At e k p b → PositionOf e k p
at_in (one s) k p b h = omega arith
at_in (alt e f) k p b (inl h) = let r = at_in e k p b h in omega arith
at_in (alt e f) k p b (inr h) = let r = at_in f (k + size e) p b h in omega arith
at_in (cat e f) k p b (inl h) = let r = at_in e k p b h in omega arith
at_in (cat e f) k p b (inr h) = let r = at_in f (k + size e) p b h in omega arith
at_in (star e) k p b h = at_in e k p b h
at_in (plus e) k p b h = at_in e k p b h
at_in none k p b h = elim h [ ]
at_in eps k p b h = elim h [ ]

-- positions of which one follows the other are both of e
pub follow_in : (e : Re) (k p q : ℕ) → Follow e k p q → PositionOf e k p × PositionOf e k q
follow_in (alt e f) k p q (inl h) = let r = follow_in e k p q h in omega arith
follow_in (alt e f) k p q (inr h) = let r = follow_in f (k + size e) p q h in omega arith
follow_in (cat e f) k p q (inl (inl h)) = let r = follow_in e k p q h in omega arith
follow_in (cat e f) k p q (inl (inr h)) = let r = follow_in f (k + size e) p q h in omega arith
follow_in (cat e f) k p q (inr h) = omega (arith, last_in e k p h.0, first_in f (k + size e) q h.1)
follow_in (star e) k p q (inl h) = follow_in e k p q h
follow_in (star e) k p q (inr h) = (last_in e k p h.0, first_in e k q h.1)
follow_in (plus e) k p q (inl h) = follow_in e k p q h
follow_in (plus e) k p q (inr h) = (last_in e k p h.0, first_in e k q h.1)
follow_in none k p q x' = elim x' [ ]
follow_in eps k p q x'' = elim x'' [ ]
follow_in (one _) k p q x4 = elim x4 [ ]

-- ---- what is left of a word, and its next step

data Split (P Q : List ℕ → Type 0) : List ℕ → Type 0 where
  split : {u v : List ℕ} → P u → Q v → Split P Q (u ++ v)

-- w is what a word of e has after its byte at the position p
abbrev Rest : Re → ℕ → ℕ → List ℕ → Type 0
Rest none k p w = ⊥
Rest eps k p w = ⊥
Rest (one s) k p w = (p ≡ k + 1) × (w ≡ [])
Rest (alt e f) k p w = Rest e k p w ⊎ Rest f (k + size e) p w
Rest (cat e f) k p w = Split (Rest e k p) (Words f) w ⊎ Rest f (k + size e) p w
Rest (star e) k p w = Split (Rest e k p) (Words (star e)) w
Rest (plus e) k p w = Split (Rest e k p) (Words (star e)) w

-- the end, where E holds, or a byte at a position in F and then what is left
data NextByte (e : Re) (k : ℕ) (E : Type 0) (F : ℕ → Type 0) : List ℕ → Type 0 where
  stop : E → NextByte e k E F []
  on : {q b : ℕ} {w : List ℕ} → F q → At e k q b → Rest e k q w → NextByte e k E F (b ∷ w)

-- the steps from the start, and from the position p
abbrev Begins : Re → ℕ → List ℕ → Type 0
Begins e k w = NextByte e k (Null e) (First e k) w

abbrev Goes : Re → ℕ → ℕ → List ℕ → Type 0
Goes e k p w = NextByte e k (Last e k p) (Follow e k p) w

-- ---- words begin so, and what is left goes so

-- a step in a part as a step in the whole
carry : {e g : Re} {k j : ℕ} {E E' : Type 0} {F F' : ℕ → Type 0} {w : List ℕ} → (E → E') → ((q : ℕ) → F q → F' q)
    → ((q b : ℕ) → At e k q b → At g j q b) → ((q : ℕ) (v : List ℕ) → Rest e k q v → Rest g j q v) → NextByte e k E F w → NextByte g j E' F' w
carry l f a r (stop n) = stop (l n)
carry l f a r (on {q = q} {b = b} {w = w} h x t) = on (f q h) (a q b x) (r q w t)

cat_begins : {e f : Re} {k : ℕ} {u v : List ℕ} → Begins e k u → Begins f (k + size e) v → Words f v → Begins (cat e f) k (u ++ v)
cat_begins (stop n) (stop m) g = stop (n, m)
cat_begins (stop n) (on i a t) g = on (inr (n, i)) (inr a) (inr t)
cat_begins (on i a t) m g = on (inl i) (inl a) (inl (split t g))

star_begins : {e : Re} {k : ℕ} {u v : List ℕ} → Begins e k u → Begins (star e) k v → Words (star e) v → Begins (star e) k (u ++ v)
star_begins (stop n) m g = m
star_begins (on i a t) m g = on i a (split t g)

-- as its word of F does, or as that of F*, if the one of F is empty
plus_begins : {e : Re} {k : ℕ} {u v : List ℕ} → Begins e k u → Begins (star e) k v → Words (star e) v → Begins (plus e) k (u ++ v)
plus_begins (stop n) (stop m) g = stop n
plus_begins (stop n) (on i a t) g = on i a t
plus_begins (on i a t) m g = on i a (split t g)

word_begins : {e : Re} {w : List ℕ} (k : ℕ) → Words e w → Begins e k w
word_begins k w_eps = stop tt
word_begins k (w_one h) = on refl (refl, h) (refl, refl)
word_begins k (w_left h) = carry inl (λ q. inl) (λ q b. inl) (λ q v. inl) (word_begins k h)
word_begins k (w_right {e = e} h) = carry inr (λ q. inr) (λ q b. inr) (λ q v. inr) (word_begins (k + size e) h)
word_begins k (w_cat {e = e} h g) = cat_begins (word_begins k h) (word_begins (k + size e) g) g
word_begins k w_done = stop tt
word_begins k (w_more h g) = star_begins (word_begins k h) (word_begins k g) g
word_begins k (w_plus h g) = plus_begins (word_begins k h) (word_begins k g) g

cat_goes : {e f : Re} {k : ℕ} {u v : List ℕ} (p : ℕ) → Goes e k p u → Begins f (k + size e) v → Words f v → Goes (cat e f) k p (u ++ v)
cat_goes p (stop l) (stop n) g = stop (inr (n, l))
cat_goes p (stop l) (on i a t) g = on (inr (l, i)) (inr a) (inr t)
cat_goes p (on h a t) m g = on (inl (inl h)) (inl a) (inl (split t g))

star_goes : {e : Re} {k : ℕ} {u v : List ℕ} (p : ℕ) → Goes e k p u → Begins (star e) k v → Words (star e) v → Goes (star e) k p (u ++ v)
star_goes p (stop l) (stop n) g = stop l
star_goes p (stop l) (on i a t) g = on (inr (l, i)) a t
star_goes p (on h a t) m g = on (inl h) a (split t g)

rest_goes : (e : Re) (k p : ℕ) (w : List ℕ) → Rest e k p w → Goes e k p w
rest_goes (one s) k p w (h, z) = rw z (stop h)
rest_goes (alt e f) k p w (inl t) = carry inl (λ q. inl) (λ q b. inl) (λ q v. inl) (rest_goes e k p w t)
rest_goes (alt e f) k p w (inr t) = carry inr (λ q. inr) (λ q b. inr) (λ q v. inr) (rest_goes f (k + size e) p w t)
rest_goes (cat e f) k p w (inl (split {u = u} t g)) = cat_goes p (rest_goes e k p u t) (word_begins (k + size e) g) g
rest_goes (cat e f) k p w (inr t) = carry inl (λ q h. inl (inr h)) (λ q b. inr) (λ q v. inr) (rest_goes f (k + size e) p w t)
rest_goes (star e) k p w (split {u = u} t g) = star_goes p (rest_goes e k p u t) (word_begins k g) g
rest_goes (plus e) k p w (split {u = u} t g) = carry (λ l. l) (λ q h. h) (λ q b a. a) (λ q v r. r) (star_goes p (rest_goes e k p u t) (word_begins k g) g)
rest_goes none k p w x' = elim x' [ ]
rest_goes eps k p w x'' = elim x'' [ ]

-- ---- what begins so is a word, and what goes so is left: no position is in two parts

rest_in : (e : Re) (k p : ℕ) (w : List ℕ) → Rest e k p w → PositionOf e k p
rest_in e k p w t = elim (rest_goes e k p w t) as (λ _ _. PositionOf e k p) [ stop l ↦ last_in e k p l | on {q = q} h a r ↦ (follow_in e k p q h).0 ]

module _ (e f : Re) (k : ℕ) where
  at_left : (q b : ℕ) → PositionOf e k q → At e k q b ⊎ At f (k + size e) q b → At e k q b
  at_left q b i (inl a) = a
  at_left q b i (inr a) = absurd (omega (arith, at_in f (k + size e) q b a))

  at_right : (q b : ℕ) → PositionOf f (k + size e) q → At e k q b ⊎ At f (k + size e) q b → At f (k + size e) q b
  at_right q b i (inl a) = absurd (omega (arith, at_in e k q b a))
  at_right q b i (inr a) = a

  -- a step in a union is a step in one of its parts
  alt_next : {E E' : Type 0} {F F' : ℕ → Type 0} {w : List ℕ} → ((q : ℕ) → F q → PositionOf e k q) → ((q : ℕ) → F' q → PositionOf f (k + size e) q)
      → NextByte (alt e f) k (E ⊎ E') (λ q. F q ⊎ F' q) w → NextByte e k E F w ⊎ NextByte f (k + size e) E' F' w
  alt_next l r (stop (inl n)) = inl (stop n)
  alt_next l r (stop (inr n)) = inr (stop n)
  alt_next l r (on {q = q} {b = b} (inl h) a (inl t)) = inl (on h (at_left q b (l q h) a) t)
  alt_next l r (on {q = q} {w = w} (inl h) a (inr t)) = absurd (omega (arith, l q h, rest_in f (k + size e) q w t))
  alt_next l r (on {q = q} {w = w} (inr h) a (inl t)) = absurd (omega (arith, r q h, rest_in e k q w t))
  alt_next l r (on {q = q} {b = b} (inr h) a (inr t)) = inr (on h (at_right q b (r q h) a) t)

begins_word : (e : Re) (k : ℕ) {w : List ℕ} → Begins e k w → Words e w
begins_word none k (stop n) = absurd n
begins_word eps k (stop n) = w_eps
begins_word (one s) k (on i a t) = rw t.1 (w_one a.1)
begins_word (alt e f) k n =
    elim (alt_next e f k (first_in e k) (first_in f (k + size e)) n) [ inl m ↦ w_left (begins_word e k m) | inr m ↦ w_right (begins_word f (k + size e) m) ]
begins_word (cat e f) k (stop (n, m)) = w_cat (begins_word e k (stop n)) (begins_word f (k + size e) (stop m))
begins_word (cat e f) k (on {q = q} {b = b} (inl i) a (inl (split t g))) = w_cat (begins_word e k (on i (at_left e f k q b (first_in e k q i) a) t)) g
begins_word (cat e f) k (on {q = q} {w = w} (inl i) a (inr t)) = absurd (omega (arith, first_in e k q i, rest_in f (k + size e) q w t))
begins_word (cat e f) k (on {q = q} (inr (n, i)) a (inl (split {u = u} t g))) = absurd (omega (arith, first_in f (k + size e) q i, rest_in e k q u t))
begins_word (cat e f) k (on {q = q} {b = b} (inr (n, i)) a (inr t)) =
    w_cat (begins_word e k (stop n)) (begins_word f (k + size e) (on i (at_right e f k q b (first_in f (k + size e) q i) a) t))
begins_word (star e) k (stop n) = w_done
begins_word (star e) k (on i a (split t g)) = w_more (begins_word e k (on i a t)) g
begins_word (plus e) k (stop n) = w_plus (begins_word e k (stop n)) w_done
begins_word (plus e) k (on i a (split t g)) = w_plus (begins_word e k (on i a t)) g
begins_word none k (on {q = q} {b = b} {w = w} i a t) = elim i [ ]
begins_word eps k (on {q = q} {b = b} {w = w} i a t) = elim i [ ]
begins_word (one s) k (stop n) = elim n [ ]

-- F* and F+ go on in the same way
star_rest : (e : Re) (k p : ℕ) {w : List ℕ} → ((v : List ℕ) → Goes e k p v → Rest e k p v) → Goes (star e) k p w → Rest (star e) k p w
star_rest e k p f (stop l) = split (f _ (stop l)) w_done
star_rest e k p f (on (inl h) a (split t g)) = split (f _ (on h a t)) g
star_rest e k p f (on (inr (l, i)) a (split t g)) = split (f _ (stop l)) (w_more (begins_word e k (on i a t)) g)

goes_rest : (e : Re) (k p : ℕ) {w : List ℕ} → Goes e k p w → Rest e k p w
goes_rest none k p (stop l) = l
goes_rest eps k p (stop l) = l
goes_rest (one s) k p (stop l) = (l, refl)
goes_rest (alt e f) k p n =
    elim (alt_next e f k (λ q h. (follow_in e k p q h).1) (λ q h. (follow_in f (k + size e) p q h).1) n)
    [ inl m ↦ inl (goes_rest e k p m) | inr m ↦ inr (goes_rest f (k + size e) p m) ]
goes_rest (cat e f) k p (stop (inl l)) = inr (goes_rest f (k + size e) p (stop l))
goes_rest (cat e f) k p (stop (inr (n, l))) = inl (split (goes_rest e k p (stop l)) (begins_word f (k + size e) (stop n)))
goes_rest (cat e f) k p (on {q = q} {b = b} (inl (inl h)) a (inl (split t g))) =
    inl (split (goes_rest e k p (on h (at_left e f k q b (follow_in e k p q h).1 a) t)) g)
goes_rest (cat e f) k p (on {q = q} {w = w} (inl (inl h)) a (inr t)) = absurd (omega (arith, follow_in e k p q h, rest_in f (k + size e) q w t))
goes_rest (cat e f) k p (on {q = q} (inl (inr h)) a (inl (split {u = u} t g))) = absurd (omega (arith, follow_in f (k + size e) p q h, rest_in e k q u t))
goes_rest (cat e f) k p (on {q = q} {b = b} (inl (inr h)) a (inr t)) =
    inr (goes_rest f (k + size e) p (on h (at_right e f k q b (follow_in f (k + size e) p q h).1 a) t))
goes_rest (cat e f) k p (on {q = q} (inr (l, i)) a (inl (split {u = u} t g))) = absurd (omega (arith, first_in f (k + size e) q i, rest_in e k q u t))
goes_rest (cat e f) k p (on {q = q} {b = b} (inr (l, i)) a (inr t)) =
    inl (split (goes_rest e k p (stop l)) (begins_word f (k + size e) (on i (at_right e f k q b (first_in f (k + size e) q i) a) t)))
goes_rest (star e) k p m = star_rest e k p (λ v. goes_rest e k p) m
goes_rest (plus e) k p m = star_rest e k p (λ v. goes_rest e k p) (carry (λ l. l) (λ q h. h) (λ q b a. a) (λ q v r. r) m)
goes_rest none k p (on {q = q} {b = b} {w = w} x5 a _) = elim x5 [ ]
goes_rest eps k p (on {q = q} {b = b} {w = w} x6 a _) = elim x6 [ ]
goes_rest (one s) k p (on {q = q} {b = b} {w = w} x7 a _) = elim x7 [ ]

-- ---- paths

-- the automaton's steps from a position
position : (e : Re) (p : ℕ) (w : List ℕ) → 0 < p → Rest e 0 p w ↔ NextByte e 0 (Final e p) (Edge e p) w
position e zero w h = absurd (omega arith)
position e (suc p) w h = (rest_goes e 0 (suc p) w, goes_rest e 0 (suc p))

next_path : (e : Re) (p : ℕ) (w : List ℕ) → NextByte e 0 (Final e p) (Edge e p) w → Path e p w
next_path e p [] (stop n) = end n
next_path e p (b ∷ w) (on {q = q} h a t) = to h a (next_path e q w ((position e q w (at_in e 0 q b a).0).0 t))

path_next : {e : Re} {p : ℕ} {w : List ℕ} → Path e p w → NextByte e 0 (Final e p) (Edge e p) w
path_next (end n) = stop n
path_next {e} (to {q = q} {b = b} {w = w} h a r) = on h a ((position e q w (at_in e 0 q b a).0).1 (path_next r))

-- a word is in the language exactly if the position automaton has a path for it
pub glushkov : (e : Re) (w : List ℕ) → Words e w ↔ Path e 0 w
glushkov e w = (λ h. next_path e 0 w (word_begins 0 h), λ r. begins_word e 0 (path_next r))

-- ---- a·∅

-- by the rules First(a·∅) is {1}
pub first_before_nothing : (s : ByteSet) (p : ℕ) → First (cat (one s) none) 0 p ↔ (p ≡ 1)
first_before_nothing s p = (λ h. elim h [ inl x ↦ x | inr x ↦ absurd x.0 ], inl)

-- yet e·∅ has no word, whatever e is
pub no_word_before_nothing : (e : Re) (w : List ℕ) → Words (cat e none) w → ⊥
no_word_before_nothing e w (w_cat h g) = elim (word_begins 0 g) as (λ _ _. ⊥) [ stop n ↦ n | on i a t ↦ i ]

-- ---- marks

-- "F+ is F·F*"
pub plus_words : (e : Re) (w : List ℕ) → Words (plus e) w ↔ Words (cat e (star e)) w
plus_words e w = (there, back)
  where
    there : {v : List ℕ} → Words (plus e) v → Words (cat e (star e)) v
    there (w_plus h g) = w_cat h g

    back : {v : List ℕ} → Words (cat e (star e)) v → Words (plus e) v
    back (w_cat h g) = w_plus h g

-- "F+ is nullable exactly if F is"
pub plus_empty : (e : Re) → Words (plus e) [] ↔ Words e []
plus_empty e = (λ h. there (word_begins 0 h), λ h. w_plus h w_done)
  where
    there : Begins (plus e) 0 [] → Words e []
    there (stop n) = begins_word e 0 (stop n)
