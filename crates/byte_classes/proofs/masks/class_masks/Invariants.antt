-- The invariant: the classes of the bytes below `from` have their masks, and n is the next class (`Masking`).
use Prim.Native.Nat.{◌-◌, ◌≤◌}
use Rattle.scope.specs.Limits.{byte_values}
use Rattle.byte_classes.proofs.Masking.{Masking}
use Rattle.byte_classes.proofs.masks.class_masks.Given as goal

abbrev pub invariant-loop-from : goal.invariant-loop-from
invariant-loop-from l = (l.from ≤ byte_values) × Masking l.sets.bytes.now l.sets.count l.groups.map l.masks l.n l.from

abbrev pub decreases-loop-from : goal.decreases-loop-from
decreases-loop-from l = byte_values - l.from
