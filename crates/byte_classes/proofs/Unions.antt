-- Unions of sets, one position after the other.
--   joined_none, joined_more, joined_with, joined_without: a union over no position, and over one more, that is in or not
--   joined_skip, joined_same: positions that add nothing; positions that add the same
use Prim.Native.Nat.{ℕ, zero, suc, ◌+◌, ◌<◌}
use mathlib.Core.Path.{◌≡◌, refl, ◌∙◌}
use mathlib.Core.Bool.{Bool, true, false}
use native.Mathlib.Nat.{add-zero, add-suc}
use native.Mathlib.Numerals.{add-one}
use native.Mathlib.Omega.{arith}
use lib.Bits.{bit_or, or_zero_r}
use Rattle.scope.specs.Positions.Bits.{given, joined}

-- no position
pub joined_none : (f : ℕ → ℕ) → joined f 0 ≡ 0
unfolding joined
joined_none f = refl

-- one position more
pub joined_more : (f : ℕ → ℕ) (n : ℕ) → joined f (n + 1) ≡ bit_or (joined f n) (f n)
unfolding joined
joined_more f n = rw (add-one n)

-- a position that is in
pub joined_with : (c : ℕ → Bool) (f : ℕ → ℕ) (n : ℕ) → c n ≡ true
    → joined (λ p. given (c p) (f p)) (n + 1) ≡ bit_or (joined (λ p. given (c p) (f p)) n) (f n)
joined_with c f n e = joined_more (λ p. given (c p) (f p)) n ∙ rw e

-- a position that is not
pub joined_without : (c : ℕ → Bool) (f : ℕ → ℕ) (n : ℕ) → c n ≡ false
    → joined (λ p. given (c p) (f p)) (n + 1) ≡ joined (λ p. given (c p) (f p)) n
joined_without c f n e = joined_more (λ p. given (c p) (f p)) n ∙ rw e (or_zero_r _)

-- positions that add nothing
pub joined_skip : (f : ℕ → ℕ) (n z : ℕ) → ((j : ℕ) → j < z → f (n + j) ≡ 0) → joined f (n + z) ≡ joined f n
unfolding joined
joined_skip f n zero e = rw (add-zero n)
joined_skip f n (suc z) e = rw (add-suc n z, e z (omega arith), or_zero_r) (joined_skip f n z (λ j h. e j (omega arith)))

-- positions that add the same
pub joined_same : (f g : ℕ → ℕ) (n : ℕ) → ((p : ℕ) → p < n → f p ≡ g p) → joined f n ≡ joined g n
unfolding joined
joined_same f g zero e = refl
joined_same f g (suc n) e = rw (joined_same f g n (λ p h. e p (omega arith)), e n (omega arith))
