-- The invariant: none of the sets passed is.
use Rattle.sets.specs.Value.{set_value}
use Rattle.seats.specs.Seats.{IsNew}
use Rattle.seats.proofs.find.Given as goal

abbrev pub invariant-loop-i : goal.invariant-loop-i
invariant-loop-i l = IsNew l.words l.i (set_value l.s.words)
