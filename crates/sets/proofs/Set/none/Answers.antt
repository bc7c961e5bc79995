-- Words of 0 are the number 0.
use lib.ListN.{get_or-replicate}
use Rattle.scope.specs.Limits.{set_words}
use Rattle.sets.proofs.Words.{value_none}
use Rattle.sets.proofs.Set.none.Goals as goal

pub returns : goal.returns
returns c = value_none _ (λ x h. get_or-replicate set_words x 0 0 h)
