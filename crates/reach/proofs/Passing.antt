-- The union of the follow sets of one word of a set. The word is read by its lowest bit: the bits that a shift passes over are not set, and add nothing.
--   Passing: the loop over a word: the bits below `at` are passed, and joined to r
--   passing_none, passing_in, passing_more, passing_end: its turns
--   word_bits: the bits of a word of a set are bits of the set
use Prim.Native.Nat.{ℕ, ◌+◌, ◌-◌, ◌*◌, ◌/◌, ◌%◌, ◌^◌, ◌≤◌, ◌<◌}
use mathlib.Core.Path.{◌≡◌, sym, ap, ap₂, ◌∙◌}
use mathlib.Core.Bool.{true, false}
use mathlib.Core.List.{List}
use native.Mathlib.Nat.{add-zero, div-one, add_assoc}
use native.Mathlib.Omega.{arith}
use lib.Bits.{bit_or}
use lib.Count.{count_trailing_zeros}
use lib.ListN.{get_or}
use lib.Pow.{shr-shr, shr_le}
use Rattle.scope.specs.Positions.Bits.{has, joined}
use Rattle.scope.proofs.Positions.Bits.{has_shr, trailing_none, trailing_one, has_small, has_zero}
use Rattle.sets.specs.Value.{set_bits, set_at, set_value}
use Rattle.sets.proofs.Words.{has_at}
use Rattle.byte_classes.proofs.Unions.{joined_with, joined_skip}
use Rattle.reach.specs.Reach.{follow_of, WordAnswer}

pub record Passing (m : List ℕ) (w x u rest r at : ℕ) : Type 0 where
  pub within : at ≤ 64
  pub left : rest ≡ x / 2 ^ at
  pub union : (s : ℕ) → ((j : ℕ) → j < 64 → has s (64 * w + j) ≡ has x j) → u ≡ joined (follow_of m s) (64 * w) → r ≡ joined (follow_of m s) (64 * w + at)

-- nothing is passed
pub passing_none : (m : List ℕ) (w x u : ℕ) → Passing m w x u x u 0
passing_none m w x u = record { within = omega arith; left = sym (div-one x); union = λ s b e. rw (add-zero (64 * w)) e }

module _ {m : List ℕ} {w x u rest r at : ℕ} (p : Passing m w x u rest r at) where
  -- the bits that are left
  bit : (j : ℕ) → has rest j ≡ has x (at + j)
  bit j = rw p.left (has_shr x at j)

  -- a bit that is not set adds nothing
  nothing : (s j : ℕ) → ((j : ℕ) → j < 64 → has s (64 * w + j) ≡ has x j) → at + j < 64 → has rest j ≡ false → follow_of m s (64 * w + at + j) ≡ 0
  nothing s j b h e = rw (add_assoc (64 * w) at j, b (at + j) h, ← bit j, e)

  -- no bit is left
  pub passing_end : rest ≡ 0 → WordAnswer m w x u r
  passing_end z s b e =
      let l : 64 * w + 64 ≡ 64 * w + at + (64 - at) = omega (arith, p.within) in
      p.union s b e ∙ rw l (sym (joined_skip (follow_of m s) (64 * w + at) (64 - at) (λ j h. nothing s j b (omega arith) (rw z (has_zero j)))))

  module _ (x-small : x < 2 ^ 64) (some : rest ≡ 0 → ⊥) where
    lowest : has x (at + count_trailing_zeros 64 rest) ≡ true
    lowest = sym (bit (count_trailing_zeros 64 rest)) ∙ trailing_one 64 rest (omega arith) (omega (arith, p.left, shr_le x at))

    -- the lowest bit stands in the word
    pub passing_in : at + count_trailing_zeros 64 rest < 64
    passing_in = has_small x (at + count_trailing_zeros 64 rest) 64 lowest x-small

    -- it is passed, and what follows it joined
    pub passing_more : {r' y : ℕ} → r' ≡ bit_or r y → y ≡ set_at m (64 * w + at + count_trailing_zeros 64 rest)
        → Passing m w x u (rest / 2 ^ count_trailing_zeros 64 rest / 2) r' (at + count_trailing_zeros 64 rest + 1)
    passing_more {r'} {y} er ey =
        let z = count_trailing_zeros 64 rest in
        record {
          within = omega (arith, passing_in);
          left = ap (λ (n : ℕ). n / 2 ^ z / 2) p.left ∙ ap (λ (n : ℕ). n / 2) (shr-shr x at z) ∙ shr-shr x (at + z) 1;
          union = λ s b v.
              (let l : 64 * w + (at + z + 1) ≡ 64 * w + at + z + 1 = omega arith in
              let f : has s (64 * w + at + z) ≡ true = rw (add_assoc (64 * w) at z) (b (at + z) passing_in ∙ lowest) in
              let g : r ≡ joined (follow_of m s) (64 * w + at + z) = p.union s b v
              ∙ sym (joined_skip (follow_of m s) (64 * w + at) z (λ j h. nothing s j b (omega (arith, passing_in)) (trailing_none 64 rest j h))) in
              er ∙ ap₂ bit_or g ey ∙ sym (joined_with (has s) (set_at m) (64 * w + at + z) f) ∙ ap (joined (follow_of m s)) (sym l));
        }

-- the word number w of a set
pub word_bits : (s : List ℕ) (w : ℕ) → 64 * w + 64 ≤ set_bits → (j : ℕ) → j < 64 → has (set_value s) (64 * w + j) ≡ has (get_or s w 0) j
word_bits s w h j l =
    let d : (64 * w + j) / 64 ≡ w = omega arith in
    let r : (64 * w + j) % 64 ≡ j = omega arith in
    rw (d, r) at (sym (has_at s (64 * w + j) (omega arith)))
