-- The twelve, and two more.
use native.Mathlib.Omega.{arith}
use Rattle.literals.proofs.Ranges.{escapable_is}
use Rattle.literals.proofs.is_escapable.Goals as goal

pub returns : goal.returns
returns c = rw c.is_twelve.ensures (escapable_is c.args.b (omega arith))
