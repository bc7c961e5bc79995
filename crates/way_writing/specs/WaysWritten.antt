-- The ways home as they are found and written. 02, C-17: "beside each state", "in two bytes", "high byte first", "zero for unused states".
--   WaysHome m w: w holds the way home of each state of m
--   WaysPut w n old new: the numbers of the first n states are written, the rest of the room is kept
--   WaysWritten old new: the ways home are written, the rest of the room is kept
use Rattle.std.specs.Prelude.{ℕ, ◌+◌, ◌*◌, ◌/◌, ◌%◌, ◌≤◌, ◌<◌, ◌≡◌, ◌⊎◌, List, length, get_or}
use Rattle.scope.specs.Limits.{byte_values, ways_at, room_bytes}
use Rattle.scope.specs.Operations.Buffers.{TailKept}
use Rattle.scope.specs.Machines.Ways.{Way}
use Rattle.scope.specs.Machines.Room.{states_of, machine, SoundWays, SameTables}

abbrev pub WaysHome : List ℕ → List ℕ → Type 0
WaysHome m w = (q : ℕ) → q < states_of m → Way (machine m) q (get_or w q 0)

pub record WaysPut (w : List ℕ) (n : ℕ) (old new : List ℕ) : Type 0 where
  pub size : length new ≡ length old
  pub high : (q : ℕ) → q < n → get_or new (ways_at + q * 2) 0 ≡ get_or w q 0 / byte_values
  pub low : (q : ℕ) → q < n → get_or new (ways_at + q * 2 + 1) 0 ≡ get_or w q 0 % byte_values
  pub outside : (i : ℕ) → (i < ways_at) ⊎ (ways_at + n * 2 ≤ i) → get_or new i 0 ≡ get_or old i 0

pub record WaysWritten (old new : List ℕ) : Type 0 where
  pub ways : SoundWays new
  pub table : SameTables old new
  pub tail : TailKept room_bytes old new
