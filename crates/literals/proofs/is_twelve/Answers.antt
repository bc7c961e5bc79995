-- The ranges have the twelve and no other byte.
use native.Mathlib.Omega.{arith}
use Rattle.literals.proofs.Ranges.{twelve_is}
use Rattle.literals.proofs.is_twelve.Goals as goal

pub returns : goal.returns
returns c = rw (c.is_in.ensures, c.is_in-2.ensures, c.is_in-3.ensures) (twelve_is c.args.b (omega arith))
