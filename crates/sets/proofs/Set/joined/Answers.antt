use mathlib.Core.Path.{◌≡◌}
use native.Mathlib.Omega.{arith}
use Rattle.scope.specs.Limits.{set_words}
use Rattle.sets.proofs.Words.{value_or, or_fits}
use Rattle.sets.proofs.Set.joined.Goals as goal

pub invariant_of-result : goal.invariant_of-result
invariant_of-result c =
    let e : c.loop-i.i ≡ set_words = omega arith in
    record { long = c.loop-i.invariant.0; fits = or_fits c.args.self c.args.other (rw e at c.loop-i.invariant.1) c.loop-i.invariant.0 }

pub returns : goal.returns
returns c = let e : c.loop-i.i ≡ set_words = omega arith in value_or _ _ (rw e at c.loop-i.invariant.1)
