use native.Mathlib.Omega.{arith}
use Rattle.byte_runs.proofs.Ends.{words_none, words_more}
use Rattle.byte_runs.proofs.note.Goals as goal

pub loop-w-init : goal.loop-w-init
loop-w-init c = words_none _ _ _ (omega (arith, c.told-ends)) c.fits-ends

pub loop-w-preserved : goal.loop-w-preserved
loop-w-preserved c = words_more c.loop-w.w c.loop-w.invariant (omega (arith, c.loop-w.invariant.size)) c.word-x.ensures (omega arith)
