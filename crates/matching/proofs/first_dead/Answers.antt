use borrow.Author.Count.{below_more}
use borrow.Author.Rules.{rules}
use Rattle.matching.proofs.Completable.{at_more, live_prefix}
use Rattle.matching.proofs.first_dead.Goals as goal

pub loop-place-preserved : goal.loop-place-preserved
loop-place-preserved c = let v = c.loop-place.invariant in
    (at_more v.0 (search rules) (rw c.table-table.ensures.table at c.step-q.ensures), below_more _ _ v.1 (live_prefix _ _ (rw v.0.leads at c.is_live.ensures.yes c.if-not-is_live.false)))
