-- The bytes that were looked at lead both states into one part.
use Prim.Native.Nat.{◌+◌}
use Rattle.two_rooms.specs.Side.{both}
use Rattle.parting.specs.Named.{Led}
use Rattle.parting.specs.CellRows.{row_width}
use Rattle.parting.proofs.Moves.agree_rooms.Given as goal

abbrev pub invariant-loop-x : goal.invariant-loop-x
invariant-loop-x l = Led (both l.self.pair.now.left l.self.pair.now.right).next l.self.least.now l.part l.p l.q row_width (row_width + l.x-index)
