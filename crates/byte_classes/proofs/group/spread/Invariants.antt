-- The invariant: the bytes below `from` have the classes of their runs.
use Prim.Native.Nat.{◌≤◌, ◌-◌}
use lib.ListN.{get_or}
use Rattle.scope.specs.Limits.{byte_values}
use Rattle.buffers.specs.Stored.{Stored}
use Rattle.byte_classes.specs.Group.{end_of}
use Rattle.byte_classes.proofs.group.spread.Given as goal

abbrev pub invariant-loop-from : goal.invariant-loop-from
invariant-loop-from l = (l.from ≤ byte_values) × Stored l.initial.map l.map 0 l.from (λ b. get_or l.initial.map (end_of l.ends.words b) 0)

abbrev pub decreases-loop-from : goal.decreases-loop-from
decreases-loop-from l = byte_values - l.from
