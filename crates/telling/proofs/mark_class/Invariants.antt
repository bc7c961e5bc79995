-- The bytes so far have the mark if they are of the class.
use Rattle.telling.specs.Classes.{ClassMarked}
use Rattle.telling.proofs.mark_class.Given as goal

abbrev pub invariant-loop-b : goal.invariant-loop-b
invariant-loop-b l = ClassMarked l.room l.class l.mark l.initial.expected l.expected l.b
