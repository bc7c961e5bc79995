use native.Mathlib.Omega.{arith}
use Rattle.telling.proofs.Followed.{classes_all}
use Rattle.telling.proofs.mark_next.Goals as goal

pub returns : goal.returns
returns c = let t = c.table-table.ensures in classes_all t.sound.table (rw (← t.table) (omega arith)) c.loop-class.invariant
