use mathlib.Core.Path.{refl}
use native.Mathlib.Omega.{arith}
use Rattle.sets.specs.Value.{value_at}
use Rattle.seats.proofs.Seats.{remainder_more}
use Rattle.seats.proofs.remainder.Goals as goal

pub loop-i-init : goal.loop-i-init
unfolding value_at
loop-i-init c = refl

pub loop-i-preserved : goal.loop-i-preserved
loop-i-preserved c = let l = c.loop-i in remainder_more c.args.s l.i l.r (omega arith) (omega arith) l.invariant
