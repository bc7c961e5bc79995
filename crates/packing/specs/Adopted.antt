-- What unpacking writes into a room from the image in the scratch. 02, C-17: "The packed form doesn't carry it; unpacking works it out."
--   Adopted image old new: new has the table of the image and its ways home, and the rest is kept
use Rattle.std.specs.Prelude.{ℕ, List}
use Rattle.scope.specs.Limits.{room_bytes}
use Rattle.scope.specs.Machines.Room.{SoundWays, SameTables}
use Rattle.scope.specs.Operations.Buffers.{TailKept}

pub record Adopted (image old new : List ℕ) : Type 0 where
  pub table : SameTables image new
  pub ways : SoundWays new
  pub tail : TailKept room_bytes old new
