-- The rooms are twins, or their states are refined together.
use Rattle.compare.proofs.Results.{answer_twins}
use Rattle.compare.proofs.answer.Goals as goal

pub returns-then-are_twins-clause-answers_compare : goal.returns-then-are_twins-clause-answers_compare
returns-then-are_twins-clause-answers_compare c =
    let s = c.table.ensures in
    let t = c.table-2.ensures in
    answer_twins s.sound t.sound (rw (s.table, t.table) at (c.are_twins.ensures.yes c.if-are_twins.true)) (rw c.table-then-are_twins.ensures.table at c.rounds_alone.ensures.0)
