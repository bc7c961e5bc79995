use mathlib.Core.Path.{ap, ◌∙◌}
use borrow.Author.Rules.{rules}
use lib.ListN.{drop}
use Rattle.scope.specs.Limits.{cells_at}
use Rattle.buffers.proofs.OneMore.{part_all}
use Rattle.matching.proofs.last_state.Goals as goal

pub step-q-requires : goal.step-q-requires
step-q-requires c = (search rules, part_all cells_at c.bytes.result.now ∙ ap (drop cells_at) c.bytes.ensures.bytes)
