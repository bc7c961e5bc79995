-- A power of 2 below 2 ^ 64.
use Prim.Native.Nat.{ℕ, ◌%◌, ◌^◌}
use mathlib.Core.Path.{ap, ◌∙◌}
use native.Mathlib.Nat.{one-mul, mod-eq_of_lt}
use native.Mathlib.Omega.{arith}
use lib.Pow.{pow-lt}
use Rattle.signs.proofs.sign.Goals as goal

pub returns : goal.returns
returns c = ap (λ (n : ℕ). n % 2 ^ 64) (one-mul (2 ^ (c.args.q % 64))) ∙ mod-eq_of_lt (pow-lt {j = 64} (omega arith))
