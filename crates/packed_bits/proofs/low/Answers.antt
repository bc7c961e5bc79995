-- The remainder by a power of two is the lowest bits, since the shifted 1 keeps all its bits.
use lib.Pow.{pow_pos}
use Rattle.packed_bits.proofs.Shifts.{one_few}
use Rattle.packed_bits.proofs.low.Goals as goal

pub nonzero_rem-result : goal.nonzero_rem-result
nonzero_rem-result c = rw (one_few c.args.count c.requires) (pow_pos c.args.count)

pub returns : goal.returns
returns c = rw (one_few c.args.count c.requires)
