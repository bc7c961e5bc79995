-- Two rooms that hold one machine byte for byte.
--   Twins a b: as far as the used cells of a go, the bytes of a and b are the same
use Rattle.std.specs.Prelude.{ℕ, ◌+◌, ◌*◌, List}
use Rattle.scope.specs.Limits.{cells_at}
use Rattle.scope.specs.Machines.Room.{states_of, classes_of}
use Rattle.buffers.specs.Stored.{BeginAlike}

abbrev pub Twins : List ℕ → List ℕ → Type 0
Twins a b = BeginAlike a b (cells_at + states_of a * classes_of a)
