-- The bytes that lead from the text's own state to a live one are those that keep the text completable.
use Rattle.telling.proofs.Followed.{live_follows}
use Rattle.telling.proofs.can_follow.Goals as goal

pub returns : goal.returns
returns c = let a = c.args in
    live_follows a.room.now a.text.now (rw c.table.ensures.table at c.last_state-q.ensures.0) c.mark_next.ensures
