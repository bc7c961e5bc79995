-- Of the bits of a byte those from the first on, and of these those up to the last.
use Rattle.leaves.proofs.GrownSets.{has_range}
use Rattle.leaves.proofs.byte_set.bits.Goals as goal

pub returns : goal.returns
returns c = λ n. has_range c.args.first c.args.last n c.requires.0 c.requires.1
