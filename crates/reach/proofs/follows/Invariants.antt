-- The invariant: the words below w are joined.
use Prim.Native.Nat.{◌*◌}
use mathlib.Core.Path.{◌≡◌}
use Rattle.scope.specs.Positions.Bits.{joined}
use Rattle.sets.specs.Value.{set_value}
use Rattle.reach.specs.Reach.{follow_of}
use Rattle.reach.proofs.follows.Given as goal

abbrev pub invariant-loop-w : goal.invariant-loop-w
invariant-loop-w l = set_value l.union.words ≡ joined (follow_of l.words (set_value l.fn.s.words)) (64 * l.w)
