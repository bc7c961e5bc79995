-- So many kinds of the row are read: `RowSweep`. A kind whose part has no number gives it the next one.
use Rattle.arrivals.proofs.Swept.{RowSweep}
use Rattle.arrivals.proofs.sweep.Given as goal

abbrev pub invariant-loop-column : goal.invariant-loop-column
invariant-loop-column l = RowSweep l.room l.part l.columns l.states.order l.number l.count l.fn.q l.column-index l.state
