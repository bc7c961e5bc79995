use native.Mathlib.Omega.{arith}
use Rattle.byte_classes.proofs.Classes.{spread_more}
use Rattle.byte_classes.proofs.group.spread.Goals as goal

pub loop-from-preserved : goal.loop-from-preserved
loop-from-preserved c = (omega (arith, c.end_of-end.ensures.byte), spread_more c.args.ends.last c.end_of-end.ensures c.loop-from.invariant.1 c.fill.ensures)
