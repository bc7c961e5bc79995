-- The invariant: of the items of every class that could be read here, those from the place on are left to put in.
use Prim.Native.Nat.{◌-◌}
use mathlib.Core.Path.{◌≡◌}
use lib.ListN.{length}
use Rattle.leaves.proofs.ClassItems.{ItemsLeft}
use Rattle.leaves.proofs.items.Given as goal

abbrev pub invariant-loop-next : goal.invariant-loop-next
invariant-loop-next l = (length l.bytes ≡ length l.initial.bytes) × ItemsLeft l.text l.at l.next l.k l.initial.bytes l.bytes

abbrev pub decreases-loop-next : goal.decreases-loop-next
decreases-loop-next l = length l.text - l.next
