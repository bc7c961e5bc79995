-- The stretch is level so far, or is not.
use Rattle.buffers.specs.Stored.{Decides}
use Rattle.two_rooms.specs.Kinds.{LevelStretch}
use Rattle.two_rooms.proofs.is_level.Given as goal

abbrev pub invariant-loop-y : goal.invariant-loop-y
invariant-loop-y l = Decides l.level (LevelStretch l.bytes l.x l.y)
