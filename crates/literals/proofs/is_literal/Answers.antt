-- As it is defined.
use mathlib.Core.Path.{refl}
use Rattle.scope.specs.Text.Grammar.{literal}
use Rattle.literals.proofs.is_literal.Goals as goal

pub returns : goal.returns
unfolding literal
returns c = rw (c.is_in.ensures, c.is_twelve.ensures) refl
