-- The library's value of a digit goes up to 36; below 16 it is that of a hex digit.
use native.Mathlib.Omega.{arith}
use Rattle.literals.proofs.Ranges.{digit_is}
use Rattle.literals.proofs.hex_value.Goals as goal

pub returns-in_err-digit : goal.returns-in_err-digit
returns-in_err-digit c = let e = digit_is c.args.b (omega arith) in rw c.from_residual.ensures (λ h. c.in_err-digit.ensures.value (omega arith))

pub returns : goal.returns
returns c = let e = digit_is c.args.b (omega arith) in let (small, same) = c.in_ok-digit.ensures.value in (omega arith, omega arith)
