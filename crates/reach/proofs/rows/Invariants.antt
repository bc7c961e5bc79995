-- The invariant: the rows below q are filled, and lead to sets among the n reached ones (`RowsFilled`). The measure is how many rows there is room for.
use Prim.Native.Nat.{◌-◌}
use Rattle.scope.specs.Limits.{state_limit}
use Rattle.seats.specs.Seats.{Guesses}
use Rattle.reach.proofs.RowsFilled.{RowsFilled}
use Rattle.reach.proofs.rows.Given as goal

abbrev pub invariant-loop-q : goal.invariant-loop-q
invariant-loop-q l = RowsFilled l.initial.image l.initial.words l.masks l.k l.image l.words l.n l.q × Guesses l.words l.guesses l.n

abbrev pub decreases-loop-q : goal.decreases-loop-q
decreases-loop-q l = state_limit - l.q
