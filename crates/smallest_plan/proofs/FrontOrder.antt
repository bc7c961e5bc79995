-- The first numbers of a list, as a list.
--   front_order: each of them stands for itself
use Prim.Native.Nat.{ℕ, ◌≤◌}
use mathlib.Core.Path.{sym, ◌∙◌}
use mathlib.Core.List.{List}
use native.Mathlib.Omega.{arith}
use lib.ListN.{length, take}
use Rattle.std.proofs.lemmas.List.{length-take, get_or-take}
use Rattle.smallest_plan.specs.Planned.{SameOrder}

-- each of the first n numbers stands for itself
pub front_order : (order : List ℕ) (n : ℕ) → n ≤ length order → SameOrder (take n order) (length (take n order)) → SameOrder order n
front_order order n l f q h = sym (get_or-take n order q 0 h) ∙ f q (omega (arith, length-take n order))
