-- What building answered is an answer of compiling, for the tree that the text has.
use native.Mathlib.Omega.{arith}
use Rattle.std.proofs.lemmas.Result.{err_from_is_err_and}
use Rattle.scope.specs.Operations.Compile.{compiled}
use Rattle.compile.proofs.BetweenPasses.{image, answered, recognised, too_much}
use Rattle.compile.proofs.build.Goals as goal

pub returns-in_err-build : goal.returns-in_err-build
returns-in_err-build c =
    let p = err_from_is_err_and c.from_residual.result c.from_residual.ensures.1 in
    rw (p.1, p.2) (too_much c.requires.0 c.requires.1 c.read-shape.ensures c.in_err-build.field-0.0 c.in_err-build.ensures)

pub new-requires : goal.new-requires
new-requires c = (image c.requires.0 c.read-shape.ensures c.in_ok-build.ensures).sound

pub returns : goal.returns
returns c =
    let p = c.requires in
    let made = image p.0 c.read-shape.ensures c.in_ok-build.ensures in
    let s = rw c.new.ensures at c.smallest.ensures.canonical in
    answered c.read-shape.ensures c.in_ok-build.ensures (omega arith) c.smallest.ensures.tail_kept
    (λ b w k. compiled (record { lent = p.1; short = p.0.short }) p.0.sized made.few_classes made.few_sets s.0 (recognised made s.0 s.1) s.2 k)
