-- The ranges have the bytes of the set and no other.
use native.Mathlib.Omega.{arith}
use Rattle.literals.proofs.Ranges.{bare_is}
use Rattle.literals.proofs.is_bare.Goals as goal

pub returns : goal.returns
returns c = rw (c.is_in.ensures, c.is_in-2.ensures, c.is_in-3.ensures) (bare_is c.args.b (omega arith))
