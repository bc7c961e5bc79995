use Rattle.byte_runs.proofs.Ends.{runs_more}
use Rattle.byte_runs.proofs.find.Goals as goal

pub loop-p-preserved : goal.loop-p-preserved
loop-p-preserved c = (runs_more c.loop-p.invariant.0 c.note.ensures, c.note.ensures.fits)
