-- The rows before q are read: `PlacesSwept`. There are no more numbers than states, so the rows come to an end.
use Prim.Native.Nat.{◌*◌, ◌-◌, ◌≤◌}
use lib.ListN.{length}
use Rattle.scope.specs.Limits.{state_limit}
use Rattle.arrivals.specs.Swept.{PlacesSwept}
use Rattle.arrivals.proofs.arrivals.Given as goal

abbrev pub invariant-loop-q : goal.invariant-loop-q
invariant-loop-q l = (l.q ≤ l.states.count) × PlacesSwept l.room l.part l.columns l.states.order l.number l.states.count (l.q * length l.columns)

abbrev pub decreases-loop-q : goal.decreases-loop-q
decreases-loop-q l = state_limit - l.q
