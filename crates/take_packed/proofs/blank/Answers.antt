-- All bytes become zero, then the head is written.
use Rattle.take_packed.proofs.Taken.{blanked}
use Rattle.take_packed.proofs.blank.Goals as goal

pub returns : goal.returns
returns c = blanked c.fill.ensures c.write_head.ensures
