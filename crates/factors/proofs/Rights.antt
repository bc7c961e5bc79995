-- A part is right for its expression: a law for each rule of the sets. Bit by bit the equations of the code are those of the definitions.
--   first_apart, last_apart: First and Last of an expression have no other positions than its own
--   laid_join: what lies in a set of two parts, one after the other, of each of which it is kept or not
--   right_alone, right_empty, right_nothing, right_moved, right_marked, right_beside, right_either: the part of each kind of expression
--   after_empty, or_nothing: an expression after the empty word, and one joined with no word at all, have its own sets
use Prim.Native.Nat.{ℕ, ◌+◌, ◌<◌, ◌≤◌}
use mathlib.Core.Path.{◌≡◌, refl, sym, ap, ap₂, ◌∙◌}
use mathlib.Core.Bool.{Bool, true, false, ◌&&◌, ◌||◌, and_comm, and-true, or-false, or-true, or_assoc}
use mathlib.Core.List.{List}
use mathlib.Core.Logic.{◌⊎◌, inl, inr}
use native.Mathlib.Nat.{add-zero}
use native.Mathlib.Omega.{arith}
use lib.Bits.{bit_or, or_zero_r, or_comm}
use Rattle.scope.specs.Bytes.{ByteSet, between}
use Rattle.scope.specs.Positions.Bits.{has, given, null, first, last, follow}
use Rattle.scope.specs.Text.Re.{Re, none, eps, one, alt, cat, size}
use Rattle.scope.specs.Text.Tree.{Mark, marking}
use Rattle.scope.proofs.Positions.Bits.{has_or, has_zero, has_given, first_is, last_is}
use Rattle.scope.specs.Positions.Sets.{First, Last}
use Rattle.scope.specs.Tests.{Tests}
use Rattle.scope.proofs.Positions.Glushkov.{PositionOf, first_in, last_in}
use Rattle.scope.proofs.Positions.Marked.{repeats, skips, size_marked, null_marked, first_marked, last_marked, follow_marked}
use Rattle.scope.proofs.Counting.Tests.{split, which}
use Rattle.scope.proofs.Operations.Buffers.{all_kept, tail_then}
use Rattle.sets.specs.Value.{set_bits, set_at}
use Rattle.sets.specs.Layout.{first_at, last_at, read_words}
use Rattle.spans.proofs.Spans.{between_in, between_out}
use Rattle.fragments.specs.declared.Fragment.{Fragment}
use Rattle.fragments.proofs.FollowLinks.{linked_still}
use Rattle.fragments.specs.Shapes.{Overlaid, Cut, Alone, Blank, Beside, Either, Moved, WithMark}
use Rattle.factors.specs.Right.{Right}

-- ---- the positions of an expression

-- no position but those after k up to n is in s
abbrev pub OnlyBetween : ℕ → ℕ → ℕ → Type 0
OnlyBetween s k n = (p : ℕ) → (p ≤ k) ⊎ (n < p) → has s p ≡ false

-- by what a set decides, and where that is
apart : (e : Re) (k s n : ℕ) (P : ℕ → Type 0) → n ≡ k + size e → ((p : ℕ) → Tests (has s p) (P p)) → ((p : ℕ) → P p → PositionOf e k p) → OnlyBetween s k n
apart e k s n P h t i p o = elim (which (has s p)) [ inl x ↦ absurd (no o (i p ((t p).sound x))) | inr x ↦ x ]
  where
    no : (p ≤ k) ⊎ (n < p) → PositionOf e k p → ⊥
    no (inl x) y = omega (arith, y.0)
    no (inr x) y = omega (arith, y.1)

pub first_apart : (e : Re) (k : ℕ) {n : ℕ} → n ≡ k + size e → OnlyBetween (first e k) k n
first_apart e k h = apart e k (first e k) _ (First e k) h (first_is e k) (first_in e k)

pub last_apart : (e : Re) (k : ℕ) {n : ℕ} → n ≡ k + size e → OnlyBetween (last e k) k n
last_apart e k h = apart e k (last e k) _ (Last e k) h (last_is e k) (last_in e k)

-- ---- what lies in a set

laid_none : (k a : ℕ) → Overlaid 0 k k a a
laid_none k a = record { inside = λ p h u v. absurd (omega arith); outside = λ p h o. refl }

-- of two parts, one after the other, what is kept: of the first if u, of the second if v
module _ (u v : Bool) {s t k m n a b c d : ℕ} (k≤m : k ≤ m) (m≤n : m ≤ n) (sa : OnlyBetween s k m) (ta : OnlyBetween t m n) (x : Overlaid s k m a b) (y : Overlaid t m n b c)
    (left : (p : ℕ) → p < set_bits → k < p → p ≤ m → has d p ≡ (has c p && u)) (right : (p : ℕ) → p < set_bits → m < p → p ≤ n → has d p ≡ (has c p && v))
    (other : (p : ℕ) → p < set_bits → (p ≤ k) ⊎ (n < p) → has d p ≡ has c p) where
  laid_join : Overlaid (bit_or (given u s) (given v t)) k n a d
  laid_join = record { inside = λ p h i j. both p h i j (split m p); outside = λ p h o. other p h o ∙ y.outside p h (after o) ∙ x.outside p h (before o) }
    where
      bits : (p : ℕ) → has (bit_or (given u s) (given v t)) p ≡ ((has s p && u) || (has t p && v))
      bits p = has_or (given u s) (given v t) p ∙ ap₂ ◌||◌ (has_given u s p ∙ and_comm u (has s p)) (has_given v t p ∙ and_comm v (has t p))

      both : (p : ℕ) → p < set_bits → k < p → p ≤ n → (m < p) ⊎ (p ≤ m) → has d p ≡ has (bit_or (given u s) (given v t)) p
      both p h i j (inr z) = left p h i z ∙ ap (λ (e : Bool). e && u) (y.outside p h (inl z) ∙ x.inside p h i z) ∙ sym (bits p ∙ rw (ta p (inl z)) (or-false (has s p && u)))
      both p h i j (inl z) = right p h z j ∙ ap (λ (e : Bool). e && v) (y.inside p h z j) ∙ sym (bits p ∙ rw (sa p (inr z)) refl)

      after : {p : ℕ} → (p ≤ k) ⊎ (n < p) → (p ≤ m) ⊎ (n < p)
      after (inl o) = inl (omega arith)
      after (inr o) = inr o

      before : {p : ℕ} → (p ≤ k) ⊎ (n < p) → (p ≤ k) ⊎ (m < p)
      before (inl o) = inl o
      before (inr o) = inr (omega arith)

-- what was cut, and what was not
cut_in : {w : Bool} {from to c d : ℕ} → Cut w from to c d → (p : ℕ) → p < set_bits → from < p → p ≤ to → has d p ≡ (has c p && w)
cut_in {w} {from} {to} {c} x p h i j = x.bits p h ∙ rw (between_in from to p i j) (ap (λ (e : Bool). has c p && e) (or-false w))

cut_out : {w : Bool} {from to c d : ℕ} → Cut w from to c d → (p : ℕ) → p < set_bits → (p ≤ from) ⊎ (to < p) → has d p ≡ has c p
cut_out {w} {from} {to} {c} x p h o = x.bits p h ∙ rw (between_out from to p o) (ap (λ (e : Bool). has c p && e) (or-true w) ∙ and-true (has c p))

-- what a set has between k and n, where it has s there
laid_only : (s k n b : ℕ) → OnlyBetween s k n → ((p : ℕ) → p < set_bits → k < p → p ≤ n → has b p ≡ has s p) → (p : ℕ) → p < set_bits → (between (k + 1) n p && has b p) ≡ has s p
laid_only s k n b a e p h = go (split k p) (split n p)
  where
    go : (k < p) ⊎ (p ≤ k) → (n < p) ⊎ (p ≤ n) → (between (k + 1) n p && has b p) ≡ has s p
    go (inr u) v = rw (between_out k n p (inl u)) (sym (a p (inl u)))
    go (inl u) (inl v) = rw (between_out k n p (inr v)) (sym (a p (inr v)))
    go (inl u) (inr v) = rw (between_in k n p u v) (e p h u v)

-- ---- parts

module _ {e : Re} {k : ℕ} {w w' : List ℕ} {g : Fragment} (x : Right e k w w' g) where
  pub right_moved : {n : ℕ} {r : Fragment} → Moved g n g.null r → Right e k w w' r
  right_moved m = record { counts = m.counts ∙ x.counts; nulls = m.nulls ∙ x.nulls; firsts = rw m.counts x.firsts; lasts = rw m.counts x.lasts; follows = x.follows }

  pub right_marked : (m : Mark) {n : ℕ} {w'' : List ℕ} {r : Fragment} → g.count < set_bits → WithMark (repeats m) (skips m) k g n w' w'' r → Right (marking m e) k w w'' r
  right_marked m {w'' = w''} {r} small c = record {
    counts = c.moved.counts ∙ x.counts ∙ ap (λ (z : ℕ). k + z) (sym (size_marked m e));
    nulls = c.moved.nulls ∙ ap (λ (z : Bool). skips m || z) x.nulls ∙ sym (null_marked m e);
    firsts = rw (first_marked m e k, c.moved.counts) (still first_at (omega arith) (inl (omega arith)) x.firsts);
    lasts = rw (last_marked m e k, c.moved.counts) (still last_at (omega arith) (inr (omega arith)) x.lasts);
    follows = record {
      kept = tail_then x.follows.kept c.linked.kept;
      bits = λ p q i h j. c.linked.bits p q (omega arith) j ∙ ap₂ ◌||◌ (x.follows.bits p q i h j) (ap₂ ◌&&◌ (ap (λ (z : Bool). repeats m && z) (only_last p h)) (and_comm (has (set_at w' first_at) q) (between (k + 1) g.count q) ∙ only_first q j))
          ∙ or_assoc (has (set_at w p) q) (has (follow e k p) q) ((repeats m && has (last e k) p) && has (first e k) q)
          ∙ ap (λ (z : Bool). has (set_at w p) q || z) (sym (ap (λ (z : ℕ). has z q) (follow_marked m e k p) ∙ has_or (follow e k p) (given (repeats m && has (last e k) p) (first e k)) q ∙ ap (λ (z : Bool). has (follow e k p) q || z) (has_given (repeats m && has (last e k) p) (first e k) q)));
    };
  }
    where
      still : {s a : ℕ} (i : ℕ) → i ≤ last_at → (i ≤ k) ⊎ (g.count < i) → Overlaid s k g.count a (set_at w' i) → Overlaid s k g.count a (set_at w'' i)
      still i l o y = record { inside = λ p h u v. linked_still c.linked i p l h o ∙ y.inside p h u v; outside = λ p h z. linked_still c.linked i p l h o ∙ y.outside p h z }

      only_last : (p : ℕ) → p < set_bits → (between (k + 1) g.count p && has (set_at w' last_at) p) ≡ has (last e k) p
      only_last = laid_only _ _ _ _ (last_apart e k x.counts) x.lasts.inside

      only_first : (p : ℕ) → p < set_bits → (between (k + 1) g.count p && has (set_at w' first_at) p) ≡ has (first e k) p
      only_first = laid_only _ _ _ _ (first_apart e k x.counts) x.firsts.inside

module _ {k n : ℕ} {w : List ℕ} {r : Fragment} where
  -- no position
  right_blank : (e : Re) {null' : Bool} → Blank n k null' r → size e ≡ 0 → null e ≡ null' → first e k ≡ 0 → last e k ≡ 0 → ((p : ℕ) → follow e k p ≡ 0) → Right e k w w r
  right_blank e b ez en ef el eo = record {
    counts = b.counts ∙ omega arith;
    nulls = b.nulls ∙ sym en;
    firsts = rw (b.counts, ef) (laid_none k (set_at w first_at));
    lasts = rw (b.counts, el) (laid_none k (set_at w last_at));
    follows = record { kept = all_kept w read_words; bits = λ p q i h j. rw (eo p, has_zero q) (sym (or-false (has (set_at w p) q))) };
  }

  pub right_empty : Blank n k true r → Right eps k w w r
  unfolding null first last follow
  right_empty b = right_blank eps b refl refl refl refl (λ p. refl)

  pub right_nothing : Blank n k false r → Right none k w w r
  unfolding null first last follow
  right_nothing b = right_blank none b refl refl refl refl (λ p. refl)

  pub right_alone : (s : ByteSet) {w' : List ℕ} → Alone n k w w' r → Right (one s) k w w' r
  unfolding null first last follow
  right_alone s {w'} a = record {
    counts = a.counts;
    nulls = a.nulls;
    firsts = rw a.counts a.firsts;
    lasts = rw a.counts a.lasts;
    follows = record { kept = a.kept; bits = λ p q i h j. rw (has_zero q) (ap (λ (z : ℕ). has z q) (a.follows p i h) ∙ sym (or-false (has (set_at w p) q))) };
  }

module _ {e f : Re} {k : ℕ} {w w' w'' : List ℕ} {a b : Fragment} (x : Right e k w w' a) (z : Right f a.count w' w'' b) where
  low : k ≤ a.count
  low = omega (arith, x.counts)

  high : a.count ≤ b.count
  high = omega (arith, z.counts)

  sizes : b.count ≡ k + (size e + size f)
  sizes = omega (arith, x.counts, z.counts)

  -- Follow of both
  both : (p q : ℕ) → 0 < p → p < set_bits → q < set_bits → has (set_at w'' p) q ≡ (has (set_at w p) q || has (bit_or (follow e k p) (follow f a.count p)) q)
  both p q i h j =
      z.follows.bits p q i h j ∙ ap (λ (c : Bool). c || has (follow f a.count p) q) (x.follows.bits p q i h j)
      ∙ or_assoc (has (set_at w p) q) (has (follow e k p) q) (has (follow f a.count p) q)
      ∙ ap (λ (c : Bool). has (set_at w p) q || c) (sym (has_or (follow e k p) (follow f a.count p) q))

  pub right_either : {r : Fragment} → Either a b r → Right (alt e f) k w w'' r
  unfolding null first last follow
  right_either m = record {
    counts = m.counts ∙ sizes;
    nulls = m.nulls ∙ ap₂ ◌||◌ x.nulls z.nulls;
    firsts = rw (m.counts, ← x.counts) (laid_join true true low high (first_apart e k x.counts) (first_apart f a.count z.counts) x.firsts z.firsts (all _ _ _) (all _ _ _) (λ p h o. refl));
    lasts = rw (m.counts, ← x.counts) (laid_join true true low high (last_apart e k x.counts) (last_apart f a.count z.counts) x.lasts z.lasts (all _ _ _) (all _ _ _) (λ p h o. refl));
    follows = record { kept = tail_then x.follows.kept z.follows.kept; bits = rw (← x.counts) both };
  }
    where
      all : (c i j p : ℕ) → p < set_bits → i < p → p ≤ j → has c p ≡ (has c p && true)
      all c i j p h u v = sym (and-true (has c p))

  pub right_beside : {w''' : List ℕ} {r : Fragment} → a.count < set_bits → Beside k a b w'' w''' r → Right (cat e f) k w w''' r
  unfolding null first last follow
  right_beside {w'''} small m = record {
    counts = m.counts ∙ sizes;
    nulls = m.nulls ∙ ap₂ ◌&&◌ x.nulls z.nulls;
    firsts = rw (m.counts, ← x.counts, ← x.nulls) (laid_join true a.null low high (first_apart e k x.counts) (first_apart f a.count z.counts) x.firsts z.firsts
        (λ p h u v. cut_out m.firsts p h (inl v) ∙ sym (and-true _)) (cut_in m.firsts) (λ p h o. cut_out m.firsts p h (past o)));
    lasts = rw (m.counts, ← x.counts, ← z.nulls, or_comm) (laid_join b.null true low high (last_apart e k x.counts) (last_apart f a.count z.counts) x.lasts z.lasts
        (cut_in m.lasts) (λ p h u v. cut_out m.lasts p h (inr u) ∙ sym (and-true _)) (λ p h o. cut_out m.lasts p h (short o)));
    follows = record {
      kept = tail_then (tail_then x.follows.kept z.follows.kept) m.kept;
      bits = λ p q i h j. m.follows p q i h j ∙ ap₂ ◌||◌ (both p q i h j) (ap₂ ◌&&◌ (only_last p h) (and_comm (has (set_at w'' first_at) q) (between (a.count + 1) b.count q) ∙ only_first q j))
          ∙ or_assoc (has (set_at w p) q) (has (bit_or (follow e k p) (follow f a.count p)) q) (has (last e k) p && has (first f a.count) q)
          ∙ ap (λ (c : Bool). has (set_at w p) q || c) (sym (rw (← x.counts) (has_or (bit_or (follow e k p) (follow f a.count p)) (given (has (last e k) p) (first f a.count)) q ∙ ap (λ (c : Bool). has (bit_or (follow e k p) (follow f a.count p)) q || c) (has_given (has (last e k) p) (first f a.count) q))));
    };
  }
    where
      past : {p : ℕ} → (p ≤ k) ⊎ (b.count < p) → (p ≤ a.count) ⊎ (b.count < p)
      past (inl o) = inl (omega (arith, low))
      past (inr o) = inr o

      short : {p : ℕ} → (p ≤ k) ⊎ (b.count < p) → (p ≤ k) ⊎ (a.count < p)
      short (inl o) = inl o
      short (inr o) = inr (omega (arith, high))

      only_last : (p : ℕ) → p < set_bits → (between (k + 1) a.count p && has (set_at w'' last_at) p) ≡ has (last e k) p
      only_last = laid_only _ _ _ _ (last_apart e k x.counts) (λ p h u v. z.lasts.outside p h (inl v) ∙ x.lasts.inside p h u v)

      only_first : (p : ℕ) → p < set_bits → (between (a.count + 1) b.count p && has (set_at w'' first_at) p) ≡ has (first f a.count) p
      only_first = laid_only _ _ _ _ (first_apart f a.count z.counts) z.firsts.inside

-- ---- what changes no set

module _ {e f : Re} {k : ℕ} {w w' : List ℕ} {g : Fragment} where
  -- the same sets
  right_as : size e ≡ size f → null e ≡ null f → first e k ≡ first f k → last e k ≡ last f k → ((p : ℕ) → follow e k p ≡ follow f k p) → Right e k w w' g → Right f k w w' g
  right_as s n a z o x = record {
    counts = x.counts ∙ ap (λ (m : ℕ). k + m) s;
    nulls = x.nulls ∙ n;
    firsts = rw (← a) x.firsts;
    lasts = rw (← z) x.lasts;
    follows = record { kept = x.follows.kept; bits = λ p q i h j. x.follows.bits p q i h j ∙ ap (λ (m : ℕ). has (set_at w p) q || has m q) (o p) };
  }

given_none : (c : Bool) → given c 0 ≡ 0
given_none true = refl
given_none false = refl

module _ {f : Re} {k : ℕ} {w w' : List ℕ} {g : Fragment} where
  pub after_empty : Right (cat eps f) k w w' g → Right f k w w' g
  unfolding null first last follow
  after_empty = right_as (omega arith) refl (simp add-zero) (simp (given_none, or_zero_r, add-zero)) (λ p. simp (has_zero, or_zero_r, add-zero))

  pub or_nothing : Right (alt none f) k w w' g → Right f k w w' g
  unfolding null first last follow
  or_nothing = right_as (omega arith) refl (simp add-zero) (simp add-zero) (λ p. simp add-zero)
