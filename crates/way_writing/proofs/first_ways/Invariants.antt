-- Of the accepting states, those below q have 0.
use Rattle.way_writing.specs.Sinking.{Sinking}
use Rattle.way_writing.proofs.first_ways.Given as goal

abbrev pub invariant-loop-q : goal.invariant-loop-q
invariant-loop-q l = Sinking l.room l.ways l.q
