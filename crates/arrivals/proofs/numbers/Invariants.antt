-- The numbers of the states so far are stored.
use Rattle.arrivals.specs.Swept.{Numbers}
use Rattle.arrivals.proofs.numbers.Given as goal

abbrev pub invariant-loop-state : goal.invariant-loop-state
invariant-loop-state l = Numbers l.part l.number l.into l.state
