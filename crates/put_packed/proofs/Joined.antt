-- Bits side by side, as numbers.
--   join_lt, joined_small: two numbers side by side have as many bits as both
--   top_lt: what stands above k of 8 + k bits is a byte
use Prim.Native.Nat.{ℕ, ◌+◌, ◌*◌, ◌/◌, ◌^◌, ◌≤◌, ◌<◌}
use mathlib.Core.Path.{◌≡◌}
use native.Mathlib.Nat.{mul-le-mul_right, suc-mul}
use native.Mathlib.Omega.{arith}
use lib.Pow.{pow-add, pow_mono, shr_lt}

-- h bits, and w bits behind them
pub join_lt : (a h w x : ℕ) → a < 2 ^ h → x < 2 ^ w → a * 2 ^ w + x < 2 ^ (h + w)
join_lt a h w x u v = rw (pow-add 2 h w) (omega (arith, mul-le-mul_right (2 ^ w) u, suc-mul a (2 ^ w)))

-- no more than 16 bits
pub joined_small : (a h w x : ℕ) → h < 8 → w ≤ 8 → a < 2 ^ h → x < 2 ^ w → a * 2 ^ w + x < 2 ^ 16
joined_small a h w x p q l m = omega (arith, join_lt a h w x l m, pow_mono {i = h + w} {j = 16} (omega arith))

-- the upper eight of s bits
pub top_lt : (r s k : ℕ) → r < 2 ^ s → s ≡ 8 + k → r / 2 ^ k < 256
top_lt r s k h e = shr_lt {n = r} 8 k (rw (← e) h)
