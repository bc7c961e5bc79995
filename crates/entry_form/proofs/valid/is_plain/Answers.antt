-- The length, what is after the text, and the text, one test each.
use mathlib.Core.Path.{sym, ◌∙◌}
use native.Mathlib.Omega.{arith}
use borrow.Author.Tests.{eqb-false}
use Rattle.buffers.proofs.OneMore.{fails}
use Rattle.entry_form.proofs.Testing.{plain_zero}
use Rattle.entry_form.proofs.valid.is_plain.Goals as goal
use Rattle.entry_form.proofs.valid.is_plain.Goals.{then-long-le-TEXT, else-long-le-TEXT}

pub returns-else-greatest-eq0 : goal.returns-else-greatest-eq0
returns-else-greatest-eq0 c = let no = c.if-greatest-eq0.false in
    elim c.if-long-le-TEXT.branch [
      | then-long-le-TEXT w ↦ rw no (fails (plain_zero c.args.form.now c.args.f w.greatest.ensures (eqb-false _ _ (sym w.value-is ∙ no))))
      | else-long-le-TEXT w ↦ rw no (fails (λ p. omega (arith, p.short, w.if-long-le-TEXT.false)))
    ]
