-- No rule of 02, but what ways home are judged and written by: an accepting state has 0, another one more than the least of those that bytes lead to, or 65,535 if
-- these all have. That the ways home are the only numbers that keep this everywhere is `rules-way` and `way-rules` (proofs/Rules).
--   Rule M f q: the numbers f keep the rule at the state q
use Rattle.std.specs.Prelude.{ℕ, suc, ◌≤◌, ◌<◌, ◌≡◌, true, false}
use Rattle.scope.specs.Limits.{byte_values, no_way}
use Rattle.scope.specs.Machines.Machine.{Machine}

pub record Rule (M : Machine) (f : ℕ → ℕ) (q : ℕ) : Type 0 where
  pub most : f q ≤ no_way
  pub here : M.accepts q ≡ true → f q ≡ 0
  pub least : M.accepts q ≡ false → (b : ℕ) → b < byte_values → f (M.next q b) < no_way → f q ≤ suc (f (M.next q b))
  pub some : M.accepts q ≡ false → f q < no_way → (b : ℕ) × (b < byte_values) × (f q ≡ suc (f (M.next q b)))
