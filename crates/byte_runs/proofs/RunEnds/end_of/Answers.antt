use Prim.Native.Nat.{◌+◌, ◌*◌, ◌<◌}
use mathlib.Core.Path.{◌≡◌}
use native.Mathlib.Omega.{arith}
use borrow.Author.Rules.{rules}
use Rattle.scope.specs.Limits.{byte_values}
use Rattle.byte_runs.specs.Runs.{NoEnd}
use Rattle.byte_runs.proofs.Ends.{left_start, left_from, left_none, left_end, before_last}
use Rattle.byte_runs.proofs.RunEnds.end_of.Goals as goal
use Rattle.byte_runs.proofs.RunEnds.end_of.Goals.{At-loop-rest}

-- the word is passed
passed : (c : At-loop-rest) → c.loop-rest.rest ≡ 0 → NoEnd c.args.self.words c.args.b (64 * (c.loop-rest.w + 1))
passed c z = left_none c.loop-rest.invariant.3 c.loop-rest.invariant.2 z

-- and was not the last
more : (c : At-loop-rest) → c.loop-rest.rest ≡ 0 → 64 * (c.loop-rest.w + 1) < byte_values
more c z = before_last c.args.self.words c.args.b _ c.args.self.last c.requires (passed c z)

pub loop-rest-init : goal.loop-rest-init
loop-rest-init c = (search rules, search rules, λ x h k. absurd (omega arith), left_from _ _ (c.args.self.fits _))

pub loop-rest-preserved : goal.loop-rest-preserved
loop-rest-preserved c =
    let i = (goal.at.loop-rest-preserved c).At-loop-rest in (
      more i c.loop-rest-test.true,
      omega (arith, c.loop-rest.invariant.1),
      passed i c.loop-rest-test.true,
      left_start _ _ _ (omega (arith, c.loop-rest.invariant.1)) (c.args.self.fits _),
    )

pub returns : goal.returns
returns c = left_end c.loop-rest.invariant.3 c.loop-rest.invariant.2 c.loop-rest-test.false (omega (arith, c.loop-rest.invariant.0))

pub bounds-self-w-in-loop-rest : goal.bounds-self-w-in-loop-rest
bounds-self-w-in-loop-rest c = omega (arith, more (goal.at.bounds-self-w-in-loop-rest c).At-loop-rest c.loop-rest-test.true)
