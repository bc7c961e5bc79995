-- The rows of a table.
--   flat: the place of a row and a column, and back
use Prim.Native.Nat.{ℕ, ◌+◌, ◌*◌, ◌/◌, ◌%◌, ◌<◌}
use mathlib.Core.Path.{◌≡◌, ◌∙◌}
use native.Mathlib.Nat.{mul-add-div_right, mul-add-mod_self_right, div-eq_of_lt, mod-eq_of_lt}
use native.Mathlib.Omega.{arith}

-- the place of the row q and the column c, of k, and back
pub flat : (k q c : ℕ) → c < k → ((q * k + c) / k ≡ q) × ((q * k + c) % k ≡ c)
flat k q c h = (mul-add-div_right {m = k} (omega arith) q c ∙ omega (arith, div-eq_of_lt h), mul-add-mod_self_right q k c ∙ mod-eq_of_lt h)
