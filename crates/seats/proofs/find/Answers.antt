use mathlib.Core.Path.{sym, ◌∙◌}
use borrow.Author.Count.{below_more}
use borrow.Author.Tests.{eqb-false}
use Rattle.sets.proofs.Words.{equal_set}
use Rattle.seats.proofs.find.Goals as goal

pub loop-i-preserved : goal.loop-i-preserved
loop-i-preserved c = below_more _ _ c.loop-i.invariant
    (λ e. eqb-false _ _ (sym (equal_set c.args.s c.load.result) ∙ sym c.eq.ensures ∙ c.if-eq.false) (sym (c.load.ensures ∙ e)))
