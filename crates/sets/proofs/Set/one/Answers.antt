-- One word is 2 ^ (p % 64), the others are 0.
use Prim.Native.Nat.{ℕ, ◌%◌, ◌^◌}
use mathlib.Core.Path.{ap, ◌∙◌}
use native.Mathlib.Nat.{one-mul, mod-eq_of_lt}
use native.Mathlib.Omega.{arith}
use lib.Pow.{pow-lt}
use Rattle.sets.proofs.Words.{one_at}
use Rattle.sets.proofs.Set.one.Goals as goal

pub returns : goal.returns
returns c = one_at _ _ c.requires (ap (λ (n : ℕ). n % 2 ^ 64) (one-mul (2 ^ (c.args.p % 64))) ∙ mod-eq_of_lt (pow-lt {j = 64} (omega arith)))
