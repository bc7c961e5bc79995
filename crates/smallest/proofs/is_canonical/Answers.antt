-- A room is canonical exactly if its plan changes nothing.
use Rattle.smallest.proofs.Stays.{stays_decides}
use Rattle.smallest.proofs.is_canonical.Goals as goal

pub returns : goal.returns
returns c = let m = c.make_plan.ensures in (stays_decides m.0 c.stays.ensures, m.1)
