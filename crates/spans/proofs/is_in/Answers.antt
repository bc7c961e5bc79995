-- The position p stands in the word p / 64.
use Rattle.spans.proofs.Spans.{has_in}
use Rattle.spans.proofs.is_in.Goals as goal

pub returns : goal.returns
returns c = has_in _ _ _ c.requires.0
