-- As it is defined.
use Rattle.byte_sets.specs.LeavesOf.{is_frame}
use Rattle.byte_sets.proofs.is_frame.Goals as goal

pub returns : goal.returns
unfolding is_frame
returns c = rw c.is_mark.ensures
