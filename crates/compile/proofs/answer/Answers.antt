-- The length is judged first, then the text; each refusal is the one that the judge gave.
use native.Mathlib.Omega.{arith}
use Rattle.std.proofs.lemmas.Result.{err_from_is_err_and}
use Rattle.scope.specs.Operations.Compile.{too_long}
use Rattle.compile.proofs.BetweenPasses.{refused, told}
use Rattle.compile.proofs.answer.Goals as goal

pub returns-then-text-gt-PATTERN : goal.returns-then-text-gt-PATTERN
returns-then-text-gt-PATTERN c = refused (λ b w k. too_long c.requires (omega (arith, c.if-text-gt-PATTERN.true)) k)

pub returns-in_err-judge : goal.returns-in_err-judge
returns-in_err-judge c =
    let p = err_from_is_err_and c.from_residual.result c.from_residual.ensures.1 in
    rw (p.1, p.2) (told (record { lent = c.requires; short = omega (arith, c.if-text-gt-PATTERN.false) }) c.in_err-judge.ensures)
