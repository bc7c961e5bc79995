-- Sets of a buffer, word by word.
--   has_without: the bits of one number that another does not have
--   low_all, low_some, low_none: the positions up to one, in a word below its own, in its own, in one above
--   between_up, between_in, between_out: the positions after one up to another
--   has_in: the position p of a set stands in its word p / 64
--   Becoming m m' i w p: of the set number i the words below w are as the test p says, the others as they were
--   becoming_none, becoming_more, became: none, one more, all are
--   becoming_next, becoming_other: the words that were not changed yet
--   is_same: a set that stays as it was
--   became_other: the others there
use Prim.Native.Nat.{ℕ, ◌+◌, ◌-◌, ◌*◌, ◌/◌, ◌%◌, ◌^◌, ◌<◌, ◌≤◌}
use mathlib.Core.Path.{◌≡◌, refl, sym, ap, ◌∙◌}
use mathlib.Core.Bool.{Bool, true, false, ◌&&◌, not, and-false, and-true, false≢true}
use mathlib.Core.List.{List}
use mathlib.Core.Logic.{◌⊎◌, inl, inr}
use native.Mathlib.Decide.{ℕ_discrete}
use native.Mathlib.Omega.{arith}
use lib.Bits.{bit_and}
use lib.Dec.{leb, lit<}
use lib.ListN.{length, get_or, set, length-set}
use lib.Seq.{get_or-set_same, get_or-set_other}
use Rattle.scope.specs.Bytes.{between}
use Rattle.scope.specs.Limits.{set_words}
use Rattle.scope.specs.Positions.Bits.{has}
use Rattle.scope.proofs.Counting.Tests.{split, which, same_test, and, at_most}
use Rattle.scope.proofs.Positions.Bits.{digit, has_zero, has_ones, has_shr, has_small}
use Rattle.scope.proofs.Positions.Moves.{has_and}
use Rattle.std.specs.Int.{w64}
use Rattle.std.proofs.lemmas.Nat.Bits.{bit_at_not}
use Rattle.sets.specs.Value.{set_bits, set_at, Put}
use Rattle.sets.proofs.Words.{has_set, put_other}
use Rattle.spans.specs.Became.{Became}

-- ---- bits

pub has_without : (a b j : ℕ) → j < 64 → b < 2 ^ 64 → has (bit_and a (2 ^ 64 - 1 - b)) j ≡ (has a j && not (has b j))
has_without a b j h l = has_and a (2 ^ 64 - 1 - b) j ∙ ap (λ (y : Bool). has a j && y) (other (digit (b / 2 ^ j)))
  where
    other : (b / 2 ^ j % 2 ≡ 0) ⊎ (b / 2 ^ j % 2 ≡ 1) → has (2 ^ 64 - 1 - b) j ≡ not (has b j)
    other (inl e) = rw (bit_at_not w64 b j l h, e) refl
    other (inr e) = rw (bit_at_not w64 b j l h, e) refl

-- the positions up to p, in a word below its own
pub low_all : (w p j : ℕ) → w < p / 64 → j < 64 → has (2 ^ 64 - 1) j ≡ leb (64 * w + j) p
low_all w p j h l = has_ones 64 j l ∙ sym ((at_most (64 * w + j) p).full (omega arith))

-- in its own
pub low_some : (w p j : ℕ) → w ≡ p / 64 → j < 64 → has ((2 ^ 64 - 1) / 2 ^ (63 - p % 64)) j ≡ leb (64 * w + j) p
low_some w p j h l = has_shr (2 ^ 64 - 1) (63 - p % 64) j ∙ same_test _ _
    (λ e. (at_most (64 * w + j) p).full (omega (arith, has_small (2 ^ 64 - 1) (63 - p % 64 + j) 64 e (lit< tt))))
    (λ e. has_ones 64 (63 - p % 64 + j) (omega (arith, (at_most (64 * w + j) p).sound e)))

-- in one above
pub low_none : (w p j : ℕ) → p / 64 < w → has 0 j ≡ leb (64 * w + j) p
low_none w p j h = has_zero j ∙ sym (elim (which (leb (64 * w + j) p)) [ inl e ↦ absurd (omega (arith, (at_most (64 * w + j) p).sound e)) | inr e ↦ e ])

-- after one up to another
pub between_up : (from to q : ℕ) → (leb q to && not (leb q from)) ≡ between (from + 1) to q
unfolding between
between_up from to q = same_test _ _ go back
  where
    go : leb q to && not (leb q from) ≡ true → leb (from + 1) q && leb q to ≡ true
    go e = elim (which (leb q from)) [ inl z ↦ absurd (false≢true (rw (z, and-false) at e)) | inr z ↦ rw ((at_most (from + 1) q).full (elim (split from q) [ inl h ↦ omega arith | inr h ↦ absurd (false≢true (sym z ∙ (at_most q from).full h)) ])) (rw (z, and-true) at e) ]

    back : leb (from + 1) q && leb q to ≡ true → leb q to && not (leb q from) ≡ true
    back e = let (a, b) = (and (at_most (from + 1) q) (at_most q to)).sound e in
        rw ((at_most q to).full b) (elim (which (leb q from)) [ inl z ↦ absurd (omega (arith, (at_most q from).sound z)) | inr z ↦ rw z refl ])

pub between_in : (k n q : ℕ) → k < q → q ≤ n → between (k + 1) n q ≡ true
unfolding between
between_in k n q h l = (and (at_most (k + 1) q) (at_most q n)).full (omega arith, l)

pub between_out : (k n q : ℕ) → (q ≤ k) ⊎ (n < q) → between (k + 1) n q ≡ false
unfolding between
between_out k n q h = elim (which (between (k + 1) n q)) [ inl e ↦ absurd (no h ((and (at_most (k + 1) q) (at_most q n)).sound e)) | inr e ↦ e ]
  where
    no : (q ≤ k) ⊎ (n < q) → (k + 1 ≤ q) × (q ≤ n) → ⊥
    no (inl x) (a, b) = omega arith
    no (inr x) (a, b) = omega arith

-- ---- word by word

-- the position p of a set stands in its word p / 64
pub has_in : (m : List ℕ) (i p : ℕ) → p < set_bits → has (get_or m (i * set_words + p / 64) 0) (p % 64) ≡ has (set_at m i) p
has_in m i p h = let o : 64 * (p / 64) + p % 64 ≡ p = omega arith in sym (has_set m i (p / 64) (p % 64) (omega arith) (omega arith)) ∙ ap (has (set_at m i)) o

pub record Becoming (m m' : List ℕ) (i w : ℕ) (p : ℕ → Bool) : Type 0 where
  pub size : length m' ≡ length m
  pub bits : (x j : ℕ) → x < w → j < 64 → has (get_or m' (i * set_words + x) 0) j ≡ p (64 * x + j)
  pub outside : (j : ℕ) → (j < i * set_words) ⊎ (i * set_words + w ≤ j) → get_or m' j 0 ≡ get_or m j 0

module _ {m : List ℕ} {i : ℕ} {p : ℕ → Bool} where
  pub becoming_none : Becoming m m i 0 p
  becoming_none = record { size = refl; bits = λ x j h l. absurd (omega arith); outside = λ j h. refl }

  pub becoming_more : {a : List ℕ} {w : ℕ} (at v : ℕ) → at ≡ i * set_words → at + w < length m → Becoming m a i w p → ((j : ℕ) → j < 64 → has v j ≡ p (64 * w + j)) → Becoming m (set a (at + w) v) i (w + 1) p
  becoming_more {a} {w} at v o h b e = rw o record {
    size = length-set a (i * set_words + w) v ∙ b.size;
    bits = λ x j k l. one x j k l (ℕ_discrete x w);
    outside = λ j k. get_or-set_other a (i * set_words + w) j v 0 (apart j k) ∙ b.outside j (further j k);
  }
    where
      one : (x j : ℕ) → x < w + 1 → j < 64 → Dec (x ≡ w) → has (get_or (set a (i * set_words + w) v) (i * set_words + x) 0) j ≡ p (64 * x + j)
      one x j k l (yes z) = rw z (ap (λ (n : ℕ). has n j) (get_or-set_same a (i * set_words + w) v 0 (omega (arith, b.size, o))) ∙ e j l)
      one x j k l (no z) = ap (λ (n : ℕ). has n j) (get_or-set_other a (i * set_words + w) (i * set_words + x) v 0 (λ y. z (omega arith))) ∙ b.bits x j (omega arith) l

      apart : (j : ℕ) → (j < i * set_words) ⊎ (i * set_words + (w + 1) ≤ j) → j ≡ i * set_words + w → ⊥
      apart j (inl k) o = omega arith
      apart j (inr k) o = omega arith

      further : (j : ℕ) → (j < i * set_words) ⊎ (i * set_words + (w + 1) ≤ j) → (j < i * set_words) ⊎ (i * set_words + w ≤ j)
      further j (inl k) = inl k
      further j (inr k) = inr (omega arith)

  -- the word that is next is still what it was
  pub becoming_next : {a : List ℕ} {w : ℕ} (at : ℕ) → at ≡ i * set_words → w < set_words → Becoming m a i w p → (j : ℕ) → j < 64 → has (get_or a (at + w) 0) j ≡ has (set_at m i) (64 * w + j)
  becoming_next {a} {w} at o h b j l = rw o (ap (λ (n : ℕ). has n j) (b.outside (i * set_words + w) (inr (omega arith))) ∙ sym (has_set m i w j h l))

  -- so are the words of other sets
  pub becoming_other : {a : List ℕ} {w : ℕ} (k at : ℕ) → at ≡ k * set_words → (i ≡ k → ⊥) → w < set_words → Becoming m a i w p → (j : ℕ) → j < 64 → has (get_or a (at + w) 0) j ≡ has (set_at m k) (64 * w + j)
  becoming_other {a} {w} k at o ne h b j l = rw o (ap (λ (n : ℕ). has n j) (b.outside (k * set_words + w) (apart (split k i))) ∙ sym (has_set m k w j h l))
    where
      apart : (k < i) ⊎ (i ≤ k) → (k * set_words + w < i * set_words) ⊎ (i * set_words + w ≤ k * set_words + w)
      apart (inl y) = inl (omega (arith, h))
      apart (inr y) = inr (omega arith)

  pub became : {m' : List ℕ} {w : ℕ} → w ≡ set_words → Becoming m m' i w p → Became m m' i p
  became {m'} e b = let c = rw e at b in
      record {
        size = c.size;
        bits = λ q h. let o : 64 * (q / 64) + q % 64 ≡ q = omega arith in
            sym (has_in m' i q h) ∙ c.bits (q / 64) (q % 64) (omega arith) (omega arith) ∙ ap p o;
        outside = c.outside;
      }

-- a set that stays as it was
pub is_same : (m : List ℕ) (i : ℕ) (p : ℕ → Bool) → ((q : ℕ) → has (set_at m i) q ≡ p q) → Became m m i p
is_same m i p e = record { size = refl; bits = λ q h. e q; outside = λ j h. refl }

-- the other sets of a buffer stay
pub became_other : {m m' : List ℕ} {i : ℕ} {p : ℕ → Bool} → Became m m' i p → (j : ℕ) → (j ≡ i → ⊥) → set_at m' j ≡ set_at m j
became_other {m} {m'} {i} b j ne = let p : Put m m' i (set_at m' i) = record { size = b.size; here = refl; outside = b.outside } in put_other p j ne
