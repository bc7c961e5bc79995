use native.Mathlib.Omega.{arith}
use Rattle.sets.proofs.Words.{load}
use Rattle.sets.proofs.load.Goals as goal

pub returns : goal.returns
returns c = load _ _ _ _ (omega arith) c.copy_from_slice.ensures.after
