-- The least keys over the first i classes of the list; at the end these are all that some byte has.
use Prim.Native.Nat.{◌-◌, ◌%◌, ◌≤◌}
use mathlib.Core.Path.{◌≡◌}
use Rattle.scope.specs.Machines.Room.{states_of}
use Rattle.soundness.specs.WaysJudged.{four, Lowered}
use Rattle.soundness.proofs.are_ways.Given as goal

abbrev pub invariant-loop-i : goal.invariant-loop-i
invariant-loop-i l = (l.i % four ≡ l.count % four) × (l.i ≤ l.count) × Lowered l.room l.list l.i (states_of l.room) l.least

abbrev pub decreases-loop-i : goal.decreases-loop-i
decreases-loop-i l = l.count - l.i
