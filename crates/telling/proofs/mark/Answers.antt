-- A live state is marked, and no other.
use Rattle.telling.proofs.Marks.{mark_by}
use Rattle.telling.proofs.mark.Goals as goal

pub returns : goal.returns
returns c = rw c.from.ensures (mark_by c.is_live.ensures)
