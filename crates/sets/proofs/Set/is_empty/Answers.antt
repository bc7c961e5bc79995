-- Sets are equal where their numbers are, and that of the empty set is 0.
use mathlib.Core.Path.{ap, ◌∙◌}
use lib.Dec.{eqb}
use Rattle.sets.specs.Value.{set_value}
use Rattle.sets.proofs.Words.{equal_set}
use Rattle.sets.proofs.Set.is_empty.Goals as goal

pub returns : goal.returns
returns c = c.eq.ensures ∙ equal_set c.args.self c.none.result ∙ ap (eqb (set_value c.args.self.words)) c.none.ensures
