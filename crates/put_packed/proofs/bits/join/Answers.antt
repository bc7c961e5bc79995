-- Fewer than 16 bits in all: the shift loses none, and the sum is below 2 ^ 16.
use mathlib.Core.Path.{refl}
use native.Mathlib.Omega.{arith}
use Rattle.packed_bits.proofs.Shifts.{shift_few}
use Rattle.put_packed.proofs.Joined.{join_lt, joined_small}
use Rattle.put_packed.proofs.bits.join.Goals as goal

pub overflow_add-result : goal.overflow_add-result
overflow_add-result c =
    let (few, small, narrow, fits) = c.requires in
    rw (shift_few c.args.held c.args.count c.args.width few narrow small)
    (omega (arith, joined_small c.args.held c.args.count c.args.width c.args.x few narrow small fits))

pub returns : goal.returns
returns c =
    let (few, small, narrow, fits) = c.requires in
    rw (shift_few c.args.held c.args.count c.args.width few narrow small)
    (refl, join_lt c.args.held c.args.count c.args.width c.args.x small fits)
