-- The rows before q are stored: `Cells`.
use Rattle.room_writing.proofs.PlanTable.{Cells}
use Rattle.room_writing.proofs.write_cells.Given as goal

abbrev pub invariant-loop-q : goal.invariant-loop-q
invariant-loop-q l = Cells l.rows.room l.rows.states.now l.classes l.initial.to l.to l.at l.q
