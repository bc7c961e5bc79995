use native.Mathlib.Omega.{arith}
use Rattle.sets.proofs.Words.{put}
use Rattle.sets.proofs.store.Goals as goal

pub returns : goal.returns
returns c = rw c.copy_from_slice.ensures.after (put _ _ _ _ (omega arith) c.requires c.args.s.long)
