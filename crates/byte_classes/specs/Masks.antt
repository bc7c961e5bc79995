-- Masks: sets of positions that hold a byte.
--   mask_of m b n: those of the first n positions that hold b
--   Masked m n map masks e: the class of each byte below e has the byte's mask
use Rattle.std.specs.Prelude.{ℕ, ◌+◌, ◌*◌, ◌^◌, ◌<◌, ◌≡◌, List, length, get_or}
use Rattle.scope.specs.Limits.{class_limit, set_words}
use Rattle.scope.specs.Positions.Bits.{given, joined}
use Rattle.sets.specs.Value.{set_at}
use Rattle.sets.specs.Layout.{held}

abbrev pub mask_of : List ℕ → ℕ → ℕ → ℕ
mask_of m b n = joined (λ p. given (held m p b) (2 ^ (p + 1))) n

pub record Masked (m : List ℕ) (n : ℕ) (map masks : List ℕ) (e : ℕ) : Type 0 where
  pub size : length masks ≡ class_limit * set_words
  pub mask : (b : ℕ) → b < e → set_at masks (get_or map b 0) ≡ mask_of m b n
