-- The reached sets in the words, and what is kept of a buffer.
--   reached_set w i: the reached set number i
--   KeptOutside old new from to: all but the elements from `from` up to `to` is kept
use Rattle.std.specs.Prelude.{ℕ, ◌+◌, ◌≤◌, ◌<◌, ◌≡◌, ◌⊎◌, List, length, get_or}
use Rattle.sets.specs.Value.{set_at}
use Rattle.sets.specs.Layout.{sets_at}

abbrev pub reached_set : List ℕ → ℕ → ℕ
reached_set w i = set_at w (sets_at + i)

pub record KeptOutside (old new : List ℕ) (from to : ℕ) : Type 0 where
  pub size : length new ≡ length old
  pub outside : (i : ℕ) → (i < from) ⊎ (to ≤ i) → get_or new i 0 ≡ get_or old i 0
