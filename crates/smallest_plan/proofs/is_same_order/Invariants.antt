-- The numbers below q stand for themselves.
use Rattle.smallest_plan.specs.Planned.{SameOrder}
use Rattle.smallest_plan.proofs.is_same_order.Given as goal

abbrev pub invariant-loop-q : goal.invariant-loop-q
invariant-loop-q l = SameOrder l.order l.q
