-- Past the end of the text there is no mark.
use mathlib.Core.Path.{sym, ap}
use Rattle.scope.specs.Text.Grammar.{is_mark}
use Rattle.factors.proofs.mark_at.Goals as goal

pub returns-in_err-b : goal.returns-in_err-b
unfolding is_mark
returns-in_err-b c = rw c.from_residual.ensures (ap is_mark (sym c.in_err-b.ensures))
