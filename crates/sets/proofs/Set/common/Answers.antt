use mathlib.Core.Path.{◌≡◌}
use native.Mathlib.Omega.{arith}
use Rattle.scope.specs.Limits.{set_words}
use Rattle.sets.proofs.Words.{value_and}
use Rattle.sets.proofs.Set.common.Goals as goal

pub returns : goal.returns
returns c = let e : c.loop-i.i ≡ set_words = omega arith in value_and _ _ (rw e at c.loop-i.invariant.1)
