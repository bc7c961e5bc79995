-- What is copied so far is `Stored` from the start up to i.
use lib.ListN.{get_or}
use Rattle.buffers.specs.Stored.{Stored}
use Rattle.buffers.proofs.copy.Given as goal

abbrev pub invariant-loop-i : goal.invariant-loop-i
invariant-loop-i l = Stored l.initial.to l.to 0 l.i (λ j. get_or l.from j 0)
