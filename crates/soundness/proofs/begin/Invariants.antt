-- The states before q have their least key.
use Rattle.soundness.specs.WaysJudged.{Lowered}
use Rattle.soundness.proofs.begin.Given as goal

abbrev pub invariant-loop-q : goal.invariant-loop-q
invariant-loop-q l = Lowered l.room l.list l.i l.q l.least
