-- The way home that the room keeps says it.
use Rattle.matching.proofs.Completable.{live_judged}
use Rattle.matching.proofs.is_live.Goals as goal

pub returns : goal.returns
returns c = live_judged c.way.ensures.sound c.requires c.way.ensures.way
