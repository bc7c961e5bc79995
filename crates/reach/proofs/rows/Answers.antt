use Rattle.reach.proofs.RowsFilled.{filled_next, filled_many, filled_end}
use Rattle.reach.proofs.rows.Goals as goal

pub returns-in_err-n : goal.returns-in_err-n
returns-in_err-n c = rw c.from_residual.ensures
    (filled_many c.requires.row_fits c.loop-q.invariant.0 c.loop-q-test.true c.load.ensures c.follows-union.ensures c.in_err-n.ensures.row_answer)

pub loop-q-preserved : goal.loop-q-preserved
loop-q-preserved c = (
  filled_next c.requires.row_fits c.loop-q.invariant.0 c.loop-q-test.true c.load.ensures c.follows-union.ensures c.in_ok-n.ensures.row_answer,
  c.in_ok-n.ensures.guesses_for,
)

pub returns : goal.returns
returns c = filled_end c.requires.row_fits c.loop-q.invariant.0 c.loop-q-test.false
