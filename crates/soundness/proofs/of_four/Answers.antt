-- Each class is below k; the least is lowered four times.
use mathlib.Core.Path.{◌∙◌}
use Rattle.soundness.proofs.WaysJudged.{least_four}
use Rattle.soundness.proofs.of_four.Goals as goal

pub returns : goal.returns
returns c = least_four c.min-x.result c.min-y.result c.min-z.result c.min.result c.requires.least_over
    (c.min-x.ensures ∙ rw c.next_key.ensures)
    (c.min-y.ensures ∙ rw c.next_key-2.ensures)
    (c.min-z.ensures ∙ rw (c.next_key-3.ensures, c.next_key-4.ensures))
    c.min.ensures
