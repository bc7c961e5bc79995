-- By the answer, and its number.
use mathlib.Core.Path.{ap, ◌∙◌}
use native.Mathlib.Omega.{arith}
use Rattle.std.specs.Prelude.{Ok}
use Rattle.put_lines.proofs.Lining.{outcome_of}
use Rattle.put_lines.proofs.put_outcome.Goals as goal

pub returns-in-Ok-Same : goal.returns-in-Ok-Same
returns-in-Ok-Same c =
    let same = rw c.in-Ok-Same.is at c.in-Ok-Same.field-0-is in
    rw (outcome_of, c.in-Ok-Same.is ∙ ap Ok same) (record { put = c.put_same.ensures.put; short = omega (arith, c.put_same.ensures.short) })

pub returns-in-Ok-Separated : goal.returns-in-Ok-Separated
returns-in-Ok-Separated c =
    let separated = rw c.in-Ok-Separated.is at c.in-Ok-Separated.field-0-is in
    rw (outcome_of, c.in-Ok-Separated.is ∙ ap Ok separated) c.put_separated.ensures

pub returns-in-Err : goal.returns-in-Err
returns-in-Err c = rw (outcome_of, c.in-Err.is) c.put_separated-in-Err.ensures
