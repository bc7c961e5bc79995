-- The ways of the states below q are written.
use Rattle.way_writing.specs.WaysWritten.{WaysPut}
use Rattle.way_writing.proofs.put.Given as goal

abbrev pub invariant-loop-q : goal.invariant-loop-q
invariant-loop-q l = WaysPut l.ways l.q l.initial.room l.room
