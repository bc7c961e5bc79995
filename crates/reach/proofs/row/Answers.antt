use Rattle.reach.proofs.Cells.{filling_full, filling_old, filling_new}
use Rattle.reach.proofs.row.Goals as goal
use Rattle.reach.proofs.row.Goals.{else-i-m, then-i-m}

pub returns-in_err-i-clause-row_answer : goal.returns-in_err-i-clause-row_answer
returns-in_err-i-clause-row_answer c =
    let s = c.in_err-i.ensures.seated in
    rw c.from_residual.ensures (filling_full c.requires.0 c.loop-c.invariant.0 c.loop-c-test.true s c.common.ensures c.load.ensures s.seat)

pub loop-c-preserved : goal.loop-c-preserved
loop-c-preserved c =
    let s = c.in_ok-i.ensures.seated in
    let g = c.in_ok-i.ensures.guessed in
    elim c.if-i-m.branch [
      | then-i-m v ↦ rw v.m-is
          (filling_new c.requires.0 c.loop-c.invariant.0 c.loop-c-test.true s c.common.ensures c.load.ensures s.seat v.if-i-m.true, g.1 v.if-i-m.true)
      | else-i-m v ↦ rw v.m-is (filling_old c.requires.0 c.loop-c.invariant.0 c.loop-c-test.true s c.common.ensures c.load.ensures s.seat v.if-i-m.false, g.0)
    ]
