-- Byte sets of positions, as bits and as tests.
--   bit_small: a bit is 0 or 1
--   held_bit, held_not: a byte is in a set where its bit is 1, and where it is not 1 it is not
--   held_same, bits_same: bytes with one bit are both in the set or both not; those that are both in or both not have one bit
use Prim.Native.Nat.{ℕ, ◌<◌}
use mathlib.Core.Path.{◌≡◌, ap}
use mathlib.Core.Bool.{true, false}
use mathlib.Core.List.{List}
use native.Mathlib.Nat.{mod-lt}
use borrow.Author.Tests.{eq-eqb, ne_eqb}
use lib.Dec.{eqb, lit<}
use Rattle.scope.proofs.Counting.Tests.{bit_same}
use Rattle.sets.specs.Layout.{bit_at, held}

-- a bit is 0 or 1
pub bit_small : (m : List ℕ) (p b : ℕ) → bit_at m p b < 2
bit_small m p b = mod-lt _ (lit< tt)

-- the bit is 1
pub held_bit : (m : List ℕ) (p b : ℕ) → bit_at m p b ≡ 1 → held m p b ≡ true
unfolding held
held_bit m p b e = eq-eqb (bit_at m p b) 1 e

-- the bit is not 1
pub held_not : (m : List ℕ) (p b : ℕ) → (bit_at m p b ≡ 1 → ⊥) → held m p b ≡ false
unfolding held
held_not m p b n = ne_eqb (bit_at m p b) 1 n

-- bytes with one bit
pub held_same : (m : List ℕ) (p a b : ℕ) → bit_at m p a ≡ bit_at m p b → held m p a ≡ held m p b
unfolding held
held_same m p a b e = ap (λ (n : ℕ). eqb n 1) e

-- bytes that are both in, or both not
pub bits_same : (m : List ℕ) (p a b : ℕ) → held m p a ≡ held m p b → bit_at m p a ≡ bit_at m p b
unfolding held
bits_same m p a b e = bit_same (bit_at m p a) (bit_at m p b) (bit_small m p a) (bit_small m p b) e
