-- By the mark, and then by whether there is a way.
use mathlib.Core.Path.{refl}
use native.Mathlib.Omega.{arith}
use borrow.Author.Tests.{eq-eqb, ne_eqb}
use Rattle.scope.proofs.Counting.Tests.{below, not_below}
use Rattle.soundness.specs.WaysJudged.{keys, right_key}
use Rattle.soundness.proofs.right_key.Goals as goal

pub returns-then-mark-eq1 : goal.returns-then-mark-eq1
unfolding right_key
returns-then-mark-eq1 c = rw (eq-eqb c.args.mark 1 c.if-mark-eq1.true) refl

pub returns-then-least-lt-KEYS : goal.returns-then-least-lt-KEYS
unfolding right_key
returns-then-least-lt-KEYS c = rw (ne_eqb c.args.mark 1 c.if-mark-eq1.false, (below c.args.least keys).full (omega arith)) refl

pub returns-else-least-lt-KEYS : goal.returns-else-least-lt-KEYS
unfolding right_key
returns-else-least-lt-KEYS c = rw (ne_eqb c.args.mark 1 c.if-mark-eq1.false, not_below c.args.least keys c.if-least-lt-KEYS.false) refl
