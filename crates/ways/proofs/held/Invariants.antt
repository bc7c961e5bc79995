-- The list is that of the classes below the one at hand.
use Prim.Native.Nat.{◌≤◌}
use Rattle.ways.specs.Held.{blocks}
use Rattle.ways.proofs.HeldClasses.{HeldBelow}
use Rattle.ways.proofs.held.Given as goal

abbrev pub invariant-loop-class : goal.invariant-loop-class
invariant-loop-class l = (l.at ≤ blocks) × HeldBelow l.room l.list l.count l.class
