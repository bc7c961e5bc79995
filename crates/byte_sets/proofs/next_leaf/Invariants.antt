-- The invariant: whatever leaves there are from the first place on, they are there from the next place on.
use Prim.Native.Nat.{◌-◌}
use lib.ListN.{length}
use Rattle.byte_sets.proofs.LeavesOf.{Passed}
use Rattle.byte_sets.proofs.next_leaf.Given as goal

abbrev pub invariant-loop-next : goal.invariant-loop-next
invariant-loop-next l = Passed l.text l.at l.next

abbrev pub decreases-loop-next : goal.decreases-loop-next
decreases-loop-next l = length l.text - l.next
