-- Compiling is determined. The judgements 1 to 8 and Done stand in an order and each has one answer, so number and place are one; two results with one answer
-- have one constructor, whose records fix each byte. A text has one tree, and two canonical rooms for the same strings have the same bytes.
--   classes_apart, sets_apart: over a limit and within it exclude each other
--   one_language: two machines for one language accept the same strings
--   judgements, past1 .. past7, answer_one: the judgements in their order, what passes each, and that the answer is theirs
--   lent_one: what is lent, where it is enough, makes no difference to number and place
--   determined: two results of one call are equal, with every byte of every buffer
--   compiled_exact, compiled_canonical: after Done the room accepts exactly the words of the text's tree, and is canonical
--   compiled_least: no complete machine for them has fewer states
--   same_room, one_room: two texts with the same words give the same room; and so does one text
use Prim.Native.Nat.{ℕ, ◌<◌, ◌≤◌}
use mathlib.Core.Path.{◌≡◌, refl, sym, ap, subst, ◌∙◌}
use mathlib.Core.Logic.{inl, inr, ◌↔◌}
use mathlib.Core.List.{List, [], ◌∷◌}
use native.Mathlib.Omega.{arith}
use lib.ListN.{length}
use Rattle.scope.specs.Answers.{ROOM, LONG, SYNTAX, RANGE, DEPTH, POSITIONS, CLASSES, STATES, DONE}
use Rattle.scope.specs.Limits.{pattern_limit, nest_limit, position_limit, class_limit, state_limit}
use Rattle.scope.specs.Text.Re.{Re, Words}
use Rattle.scope.specs.Text.Tree.{Tree, expr, falling, opened, places}
use Rattle.scope.specs.Text.Judge.{Pattern, SyntaxAt, Beyond, RangeAt, Ordered, DepthAt, Shallow, PositionAt}
use Rattle.scope.specs.Positions.Reached.{Share, ManyClasses, FewClasses, ManySets, FewSets}
use Rattle.scope.specs.Machines.Machine.{Machine, Equal, Recognises, Closed}
use Rattle.scope.specs.Machines.Room.{states_of, machine, SameBytes}
use Rattle.scope.specs.Machines.Canonical.{Canonical}
use Rattle.scope.specs.Operations.Buffers.{Lent}
use Rattle.scope.specs.Operations.Compile.{Fits, Sized, CompileRefused, Compiles, no_room, too_long, no_syntax, falls, too_deep, too_many, many_classes, many_sets, compiled}
use Rattle.scope.proofs.Counting.Tests.{same_test}
use Rattle.scope.proofs.Operations.Buffers.{cleared_one, untouched_one, tail_one}
use Rattle.scope.proofs.Counting.Count.{over_within}
use Rattle.scope.proofs.Text.Judge.{syntax_one, beyond_one}
use Rattle.scope.proofs.Machines.Least.{least}
use Rattle.scope.proofs.Text.Tree.{one_tree}
use Rattle.scope.proofs.Machines.Unique.{unique}
use Rattle.scope.proofs.Operations.Determined.{FirstApplies, EachSingle, judged_one}

-- over 64 pattern classes and at most 64 exclude each other
pub classes_apart : (e : Re) → ManyClasses e → FewClasses e → ⊥
classes_apart e = over_within _ (Share e) (λ x y p. sym p) (λ x y z p q. p ∙ q) class_limit

-- over 128 reached sets and at most 128 exclude each other
pub sets_apart : (e : Re) → ManySets e → FewSets e → ⊥
sets_apart e = over_within _ (λ (s t : ℕ). s ≡ t) (λ x y p. sym p) (λ x y z p q. p ∙ q) state_limit

-- two machines for one language accept the same strings
pub one_language : (M N : Machine) (L : List ℕ → Type 0) → Recognises M L → Recognises N L → Equal M N
one_language M N L a b w g = same_test _ _ (λ e. (b w g).1 ((a w g).0 e)) (λ e. (a w g).1 ((b w g).0 e))

-- number and place
abbrev Answer : Type 0
Answer = ℕ × ℕ

module _ (text room bytes words : List ℕ) where
  -- ---- the judgements in their order

  -- a judgement of the tree, with a place; of the tree alone
  abbrev With : (Tree → ℕ → Type 0) → ℕ → Answer → Type 0
  With P n r = (i : ℕ) × (t : Tree) × (r ≡ (n, i)) × Pattern text t × P t i

  abbrev Whole : (Tree → Type 0) → ℕ → Answer → Type 0
  Whole P n r = (t : Tree) × (r ≡ (n, 0)) × Pattern text t × P t

  abbrev from8 : List (Answer → Type 0)
  from8 = Whole (λ t. ManySets (expr t)) STATES ∷ (λ r. r ≡ (DONE, 0)) ∷ []

  abbrev from7 : List (Answer → Type 0)
  from7 = Whole (λ t. ManyClasses (expr t)) CLASSES ∷ from8

  abbrev from6 : List (Answer → Type 0)
  from6 = With PositionAt POSITIONS ∷ from7

  abbrev from5 : List (Answer → Type 0)
  from5 = With DepthAt DEPTH ∷ from6

  abbrev from4 : List (Answer → Type 0)
  from4 = With RangeAt RANGE ∷ from5

  abbrev from3 : List (Answer → Type 0)
  from3 = (λ r. (i : ℕ) × (r ≡ (SYNTAX, i)) × SyntaxAt text i) ∷ from4

  abbrev from2 : List (Answer → Type 0)
  from2 = (λ r. (r ≡ (LONG, 0)) × (pattern_limit < length text)) ∷ from3

  abbrev pub judgements : List (Answer → Type 0)
  judgements = (λ r. (r ≡ (ROOM, 0)) × (Lent room bytes words → ⊥)) ∷ from2

  -- ---- each has one answer

  placed : (l : Tree → List ℕ) (n : ℕ) (C : ℕ) (a b : Answer) → With (λ t i. Beyond (l t) n i) C a → With (λ t i. Beyond (l t) n i) C b → a ≡ b
  placed l n C a b (i, t, e, p, x) (j, u, f, q, y) = e ∙ ap (λ (k : ℕ). (C, k)) (beyond_one (l t) n i j x (rw (one_tree text t u p q) y)) ∙ sym f

  single7 : EachSingle from7
  single7 = (λ a b x y. x.1 ∙ sym y.1, (λ a b x y. x.1 ∙ sym y.1, (λ a b x y. x ∙ sym y, tt)))

  single4 : EachSingle from4
  single4 = (placed falling 0 RANGE, (placed (opened nest_limit) 0 DEPTH, (placed places position_limit POSITIONS, single7)))

  single3 : EachSingle from3
  single3 = (λ a b x y. x.1 ∙ ap (λ (k : ℕ). (SYNTAX, k)) (syntax_one text _ _ x.2 y.2) ∙ sym y.1, single4)

  single : EachSingle judgements
  single = (λ a b x y. x.0 ∙ sym y.0, (λ a b x y. x.0 ∙ sym y.0, single3))

  -- ---- a judgement that is passed applies to nothing

  past_place : (l : Tree → List ℕ) (n : ℕ) (C : ℕ) (t : Tree) → Pattern text t → length (l t) ≤ n → (x : Answer) → With (λ t i. Beyond (l t) n i) C x → ⊥
  past_place l n C t p h x (i, u, e, q, b) = let k : length (l u) ≤ n = subst (λ (v : Tree). length (l v) ≤ n) (one_tree text t u p q) h in omega (arith, b.more)

  module _ {r : Answer} where
    pub past1 : Lent room bytes words → FirstApplies from2 r → FirstApplies judgements r
    past1 l j = inr (λ x p. p.1 l, j)

    pub past2 : Fits text room bytes words → FirstApplies from3 r → FirstApplies judgements r
    past2 y j = past1 y.lent (inr (λ x p. omega (arith, p.1, y.short), j))

    pub past3 : {t : Tree} → Fits text room bytes words → Pattern text t → FirstApplies from4 r → FirstApplies judgements r
    past3 {t} y p j = past2 y (inr (λ x q. q.2.illegal (record { tree = t; reads = p }), j))

    pub past4 : {t : Tree} → Fits text room bytes words → Pattern text t → Ordered t → FirstApplies from5 r → FirstApplies judgements r
    past4 {t} y p o j = past3 y p (inr (past_place falling 0 RANGE t p o, j))

    pub past5 : {t : Tree} → Fits text room bytes words → Pattern text t → Ordered t → Shallow t → FirstApplies from6 r → FirstApplies judgements r
    past5 {t} y p o d j = past4 y p o (inr (past_place (opened nest_limit) 0 DEPTH t p d, j))

    pub past6 : {t : Tree} → Fits text room bytes words → Sized text t → FirstApplies from7 r → FirstApplies judgements r
    past6 {t} y z j = past5 y z.pattern z.ordered z.shallow (inr (past_place places position_limit POSITIONS t z.pattern z.brief, j))

    pub past7 : {t : Tree} → Fits text room bytes words → Sized text t → FewClasses (expr t) → FirstApplies from8 r → FirstApplies judgements r
    past7 {t} y z c j = past6 y z (inr (classes, j))
      where
        classes : (x : Answer) → Whole (λ t. ManyClasses (expr t)) CLASSES x → ⊥
        classes x (u, e, q, m) = classes_apart (expr u) m (subst (λ (v : Tree). FewClasses (expr v)) (one_tree text t u z.pattern q) c)

  past8 : {t : Tree} → Fits text room bytes words → Sized text t → FewClasses (expr t) → FewSets (expr t) → FirstApplies judgements (DONE, 0)
  past8 {t} y z c f = past7 y z c (inr (sets, inl refl))
    where
      sets : (x : Answer) → Whole (λ t. ManySets (expr t)) STATES x → ⊥
      sets x (u, e, q, m) = sets_apart (expr u) m (subst (λ (v : Tree). FewSets (expr v)) (one_tree text t u z.pattern q) f)

  chain : {room' bytes' words' : List ℕ} {n i : ℕ} → Compiles text room room' bytes bytes' words words' n i → FirstApplies judgements (n, i)
  chain (no_room h k t) = inl (refl, h)
  chain (too_long l h f) = past1 l (inl (refl, h))
  chain (no_syntax {i} y s f) = past2 y (inl (i, refl, s))
  chain (falls {i} {t} y p x f) = past3 y p (inl (i, t, refl, p, x))
  chain (too_deep {i} {t} y p o x f) = past4 y p o (inl (i, t, refl, p, x))
  chain (too_many {i} {t} y p o d x f) = past5 y p o d (inl (i, t, refl, p, x))
  chain (many_classes {t} y z m f) = past6 y z (inl (t, refl, z.pattern, m))
  chain (many_sets {t} y z c m f) = past7 y z c (inl (t, refl, z.pattern, m))
  chain (compiled y z c m k e h f) = past8 y z c m

  -- an answer is the one that the judgements give
  pub answer_one : {room' bytes' words' : List ℕ} {n i m j : ℕ} → Compiles text room room' bytes bytes' words words' n i → FirstApplies judgements (m, j) → (n ≡ m) × (i ≡ j)
  answer_one {n = n} {i} {m} {j} a d =
      let e = judged_one judgements single (n, i) (m, j) (chain a) d in
      (ap (λ (r : Answer). r.0) e, ap (λ (r : Answer). r.1) e)

-- what is lent, where it is enough, makes no difference to number and place
pub lent_one : {text room room' bytes bytes' words words' other other' a a' d d' : List ℕ} {n i m j : ℕ} → Lent room bytes words → Lent other a d
    → Compiles text room room' bytes bytes' words words' n i → Compiles text other other' a a' d d' m j → (n ≡ m) × (i ≡ j)
lent_one {text} {room} {bytes = bytes} {words = words} {other} {a = a} {d = d} l k x y = answer_one text room bytes words x (elim (chain text other a d y) [
  | inl (e, h) ↦ absurd (h k)
  | inr (f, z) ↦ past1 text room bytes words l z
])

-- ---- one answer, one result

-- the rooms and the scratch
abbrev Alike : List ℕ → List ℕ → List ℕ → List ℕ → List ℕ → List ℕ → Type 0
Alike u v b c w x = (u ≡ v) × (b ≡ c) × (w ≡ x)

refused_one : {room u v bytes b c words w x : List ℕ} → CompileRefused room u bytes b words w → CompileRefused room v bytes c words x → Alike u v b c w x
refused_one f g = let z = cleared_one f.cleared g.cleared in (f.kept ∙ sym g.kept, z.0, z.1)

module _ {text room u v bytes b c words w x : List ℕ} where
  after_one : {n i : ℕ} → Compiles text room u bytes b words w n i → Compiles text room v bytes c words x n i → Alike u v b c w x
  after_one (no_room h k t) (no_room h' k' t') = let z = untouched_one t t' in (k ∙ sym k', z.0, z.1)
  after_one (too_long l h f) (too_long l' h' f') = refused_one f f'
  after_one (no_syntax y s f) (no_syntax y' s' f') = refused_one f f'
  after_one (falls y p i f) (falls y' p' i' f') = refused_one f f'
  after_one (too_deep y p o i f) (too_deep y' p' o' i' f') = refused_one f f'
  after_one (too_many y p o d i f) (too_many y' p' o' d' i' f') = refused_one f f'
  after_one (many_classes y z m f) (many_classes y' z' m' f') = refused_one f f'
  after_one (many_sets y z m n f) (many_sets y' z' m' n' f') = refused_one f f'
  after_one (compiled {t} y s m n k e h f) (compiled {t = t'} y' s' m' n' k' e' h' f') =
      let e'' : Recognises (machine v) (Words (expr t)) = rw (one_tree text t t' s.pattern s'.pattern) e' in
      let z = cleared_one f f' in
      (tail_one h h' (unique u v k k' (one_language (machine u) (machine v) (Words (expr t)) e e'')), z.0, z.1)

  -- two results of one call: the numbers and places, the rooms, the scratch
  pub determined : {n m i j : ℕ} → Compiles text room u bytes b words w n i → Compiles text room v bytes c words x m j → (n ≡ m) × (i ≡ j) × ((u ≡ v) × (b ≡ c) × (w ≡ x))
  determined a d = let (e, f) = answer_one text room bytes words a (chain text room bytes words d) in (e, f, after_one a (rw (e, f) d))

-- ---- what a compiled room is

module _ {text room room' bytes bytes' words words' : List ℕ} where
  pub compiled_exact : Compiles text room room' bytes bytes' words words' DONE 0 → (t : Tree) → Pattern text t → Recognises (machine room') (Words (expr t))
  compiled_exact (compiled {t = u} y s m n k e h f) t p = rw (one_tree text t u p s.pattern) e

  pub compiled_canonical : Compiles text room room' bytes bytes' words words' DONE 0 → Canonical room'
  compiled_canonical (compiled y s m n k e h f) = k

  pub compiled_least : Compiles text room room' bytes bytes' words words' DONE 0 → (t : Tree) → Pattern text t → (N : Machine) → Closed N → Recognises N (Words (expr t))
      → states_of room' ≤ N.states
  compiled_least x t p N c r = least room' N (compiled_canonical x).table c (one_language (machine room') N (Words (expr t)) (compiled_exact x t p) r)

module _ {text text' room room' u v bytes b bytes' b' words w words' w' : List ℕ} where
  pub same_room : Compiles text room u bytes b words w DONE 0 → Compiles text' room' v bytes' b' words' w' DONE 0 → (t t' : Tree) → Pattern text t → Pattern text' t'
      → ((s : List ℕ) → Words (expr t) s ↔ Words (expr t') s) → SameBytes u v
  same_room x y t t' p q e = unique u v (compiled_canonical x) (compiled_canonical y)
      (one_language (machine u) (machine v) (Words (expr t)) (compiled_exact x t p) (λ s g. (λ a. (e s).1 ((compiled_exact y t' q s g).0 a), λ l. (compiled_exact y t' q s g).1 ((e s).0 l))))

-- one text, into whatever rooms
pub one_room : {text room room' u v bytes b bytes' b' words w words' w' : List ℕ} {i j : ℕ} → Compiles text room u bytes b words w DONE i
    → Compiles text room' v bytes' b' words' w' DONE j → SameBytes u v
one_room {text} (compiled {t} y s m n k e h f) x = same_room (compiled y s m n k e h f) (done x) t t s.pattern s.pattern (λ s. (λ a. a, λ a. a))
  where
    done : {room' v bytes' b' words' w' : List ℕ} {j : ℕ} → Compiles text room' v bytes' b' words' w' DONE j → Compiles text room' v bytes' b' words' w' DONE 0
    done (compiled y s m n k e h f) = compiled y s m n k e h f
