-- The states from q on are passed: `SweptTo`.
use Rattle.way_writing.proofs.Sinking.{SweptTo}
use Rattle.way_writing.proofs.sweep.Given as goal

abbrev pub invariant-loop-q : goal.invariant-loop-q
invariant-loop-q l = SweptTo l.room l.initial.ways l.ways l.moved l.q
