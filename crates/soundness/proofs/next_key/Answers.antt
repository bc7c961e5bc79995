-- The cell is the state whose key is read.
use Rattle.soundness.proofs.next_key.Goals as goal

pub returns : goal.returns
returns c = cc
