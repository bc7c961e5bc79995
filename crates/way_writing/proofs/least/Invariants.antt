-- The least so far is that of the first i classes.
use lib.ListN.{get_or}
use Rattle.ways.specs.LeastOver.{LeastOver}
use Rattle.way_writing.proofs.least.Given as goal

abbrev pub invariant-loop-i : goal.invariant-loop-i
invariant-loop-i l = LeastOver l.room (λ p. get_or l.ways p 0) l.list l.i l.q l.way
