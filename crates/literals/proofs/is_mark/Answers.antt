-- As it is defined; the tests are regrouped.
use mathlib.Core.Bool.{or_assoc, or-false}
use Rattle.scope.specs.Text.Grammar.{is_mark}
use Rattle.literals.proofs.is_mark.Goals as goal

pub returns : goal.returns
unfolding is_mark
returns c = rw (or_assoc, or-false)
