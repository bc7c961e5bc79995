-- The invariant: of the leaves of every tree that the text could have, k are put in, and those that are left begin at the next leaf.
use Prim.Native.Nat.{◌-◌}
use mathlib.Core.Path.{◌≡◌}
use lib.ListN.{length}
use Rattle.byte_sets.proofs.Filling.{BytesToCome}
use Rattle.byte_sets.proofs.fill.Given as goal

abbrev pub invariant-loop-at : goal.invariant-loop-at
invariant-loop-at l = (length l.bytes ≡ length l.initial.bytes) × BytesToCome l.text l.from l.k l.initial.bytes l.bytes

abbrev pub decreases-loop-at : goal.decreases-loop-at
decreases-loop-at l = length l.text - l.from
