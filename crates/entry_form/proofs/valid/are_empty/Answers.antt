-- The lengths and the texts, one test each.
use borrow.Author.Tests.{eqb-true, eqb-false, ne_eqb}
use Rattle.buffers.proofs.OneMore.{fails}
use Rattle.entry_form.proofs.Testing.{lengths_left, texts_left, empty_are}
use Rattle.entry_form.proofs.valid.are_empty.Goals as goal

pub returns-then-greatest-eq0 : goal.returns-then-greatest-eq0
returns-then-greatest-eq0 c = let a = c.args in record {
  yes = λ e. empty_are a.form.now a.f c.greatest.ensures c.if-greatest-eq0.true c.greatest-then-greatest-eq0.ensures (eqb-true _ _ e);
  no = λ e. texts_left a.form.now a.f c.greatest-then-greatest-eq0.ensures (eqb-false _ _ e);
}

pub returns-else-greatest-eq0 : goal.returns-else-greatest-eq0
returns-else-greatest-eq0 c = let a = c.args in
    rw (ne_eqb _ _ c.if-greatest-eq0.false) (fails (lengths_left a.form.now a.f c.greatest.ensures c.if-greatest-eq0.false))
