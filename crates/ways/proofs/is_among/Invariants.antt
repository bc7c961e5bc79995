-- Whether the class is among the elements up to the place i.
use Rattle.buffers.specs.Stored.{Decides}
use Rattle.ways.specs.Held.{Occurs}
use Rattle.ways.proofs.is_among.Given as goal

abbrev pub invariant-loop-i : goal.invariant-loop-i
invariant-loop-i l = Decides l.found (Occurs l.room l.from l.i l.class)
