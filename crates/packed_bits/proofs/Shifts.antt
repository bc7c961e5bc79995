-- Shifts by at most eight bits, as arithmetic: nothing is lost in a word of 64.
--   shift_few, one_few: a shift to the left multiplies
use Prim.Native.Nat.{ℕ, ◌*◌, ◌%◌, ◌^◌, ◌≤◌, ◌<◌}
use mathlib.Core.Path.{◌≡◌, ◌∙◌}
use native.Mathlib.Omega.{arith}
use lib.Dec.{lit<}
use lib.Pow.{shl_exact}

-- a number of h bits, shifted by w
pub shift_few : (a h w : ℕ) → h < 8 → w ≤ 8 → a < 2 ^ h → a * 2 ^ w % 2 ^ 64 ≡ a * 2 ^ w
shift_few a h w p q l = shl_exact {a = a} h w 64 l (omega arith)

-- 1 shifted by w
pub one_few : (w : ℕ) → w ≤ 8 → 1 * 2 ^ w % 2 ^ 64 ≡ 2 ^ w
one_few w h = shift_few 1 1 w (lit< tt) h (lit< tt) ∙ omega arith
