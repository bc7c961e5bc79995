-- The invariant: the `]` of every class that could be read here is still ahead, or reached.
use Prim.Native.Nat.{◌-◌}
use lib.ListN.{length}
use Rattle.leaves.proofs.ClassEnd.{WithinClass}
use Rattle.leaves.proofs.class_end.Given as goal

abbrev pub invariant-loop-next : goal.invariant-loop-next
invariant-loop-next l = WithinClass l.text l.at l.next

abbrev pub decreases-loop-next : goal.decreases-loop-next
decreases-loop-next l = length l.text - l.next
