-- As it is defined.
use mathlib.Core.Path.{refl}
use Rattle.scope.specs.Bytes.{between}
use Rattle.literals.proofs.is_in.Goals as goal

pub returns : goal.returns
unfolding between
returns c = refl
