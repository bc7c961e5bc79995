-- A set of a buffer that was changed.
--   Became m m' i p: the set number i has the positions that pass the test p, and nothing else changed
use Rattle.std.specs.Prelude.{ℕ, ◌+◌, ◌*◌, ◌<◌, ◌≤◌, ◌≡◌, Bool, List, ◌⊎◌, length, get_or}
use Rattle.scope.specs.Limits.{set_words}
use Rattle.scope.specs.Positions.Bits.{has}
use Rattle.sets.specs.Value.{set_bits, set_at}

pub record Became (m m' : List ℕ) (i : ℕ) (p : ℕ → Bool) : Type 0 where
  pub size : length m' ≡ length m
  pub bits : (q : ℕ) → q < set_bits → has (set_at m' i) q ≡ p q
  pub outside : (j : ℕ) → (j < i * set_words) ⊎ (i * set_words + set_words ≤ j) → get_or m' j 0 ≡ get_or m j 0
