-- The row has the cells from i on.
use Rattle.two_rooms.specs.Side.{both}
use Rattle.parting.specs.CellRows.{RowFrom}
use Rattle.parting.proofs.write_row.Given as goal

abbrev pub invariant-loop-i : goal.invariant-loop-i
invariant-loop-i l = RowFrom (both l.pair.left l.pair.right).next l.least l.q l.i l.row
