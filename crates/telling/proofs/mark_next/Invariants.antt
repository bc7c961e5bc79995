-- The bytes of the classes so far are marked.
use Rattle.telling.proofs.Followed.{ClassesMarked}
use Rattle.telling.proofs.mark_next.Given as goal

abbrev pub invariant-loop-class : goal.invariant-loop-class
invariant-loop-class l = ClassesMarked l.room l.q l.class l.expected
