-- The least of the ways that classes lead to, by which a state keeps the rule of ways home or does not.
--   LeastOver m f l i q r: r is the least of the numbers of the states to which the first i classes of l lead from q, and of 65,535
--   right_way a r: what a state has that is accepting, or is not, where r is the least of those that bytes lead to
use Rattle.std.specs.Prelude.{ℕ, suc, ◌≤◌, ◌<◌, ◌≡◌, Bool, cond, List, ltb, get_or}
use Rattle.scope.specs.Limits.{no_way}
use Rattle.scope.specs.Machines.Room.{cell_of}

pub record LeastOver (m : List ℕ) (f : ℕ → ℕ) (l : List ℕ) (i q r : ℕ) : Type 0 where
  pub most : r ≤ no_way
  pub below : (j : ℕ) → j < i → r ≤ f (cell_of m q (get_or l j 0))
  pub some : r < no_way → (j : ℕ) × (j < i) × (r ≡ f (cell_of m q (get_or l j 0)))

unfoldable pub right_way : Bool → ℕ → ℕ
right_way a r = cond a 0 (cond (ltb r no_way) (suc r) no_way)
