-- The bytes below x have their kinds, and `last` has the classes of the byte before x.
use Prim.Native.Nat.{◌≤◌, ◌<◌, ◌-◌}
use Rattle.scope.specs.Limits.{byte_values}
use Rattle.two_rooms.proofs.ByKind.{KindsPassed}
use Rattle.two_rooms.proofs.Pair.kinds.Given as goal

abbrev pub invariant-loop-x : goal.invariant-loop-x
invariant-loop-x l = (0 < l.x) × (l.x ≤ byte_values) × KindsPassed l.self.left l.self.right l.least l.count l.last l.x

abbrev pub decreases-loop-x : goal.decreases-loop-x
decreases-loop-x l = byte_values - l.x
