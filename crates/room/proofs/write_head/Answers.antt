-- The two bytes are the head's.
use Rattle.room.proofs.HeadAndParts.{head_set}
use Rattle.room.proofs.write_head.Goals as goal

pub returns : goal.returns
returns c = head_set _ _ _ c.requires.0
