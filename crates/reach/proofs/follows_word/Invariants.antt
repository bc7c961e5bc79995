-- The invariant: the bits below `at` are passed, and what follows them is joined (`Passing`). The measure is how many bits are left.
use Prim.Native.Nat.{◌-◌}
use Rattle.sets.specs.Value.{set_value}
use Rattle.reach.proofs.Passing.{Passing}
use Rattle.reach.proofs.follows_word.Given as goal

abbrev pub invariant-loop-rest : goal.invariant-loop-rest
invariant-loop-rest l = Passing l.words l.w l.x (set_value l.initial.union.words) l.rest (set_value l.union.words) l.at

abbrev pub decreases-loop-rest : goal.decreases-loop-rest
decreases-loop-rest l = 64 - l.at
