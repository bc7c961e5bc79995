-- A set of positions as words of 64 bits, the lowest first.
--   set_bits: how many bits a set has
--   value_at m at w: the number that the w words from `at` on are
--   set_value m: the set that an array of words is
--   set_at m i: the set number i of a buffer
--   Put m m' i s: m' is m with the set s as number i
use Rattle.std.specs.Prelude.{ℕ, zero, suc, ◌+◌, ◌*◌, ◌%◌, ◌^◌, ◌<◌, ◌≤◌, ◌≡◌, List, ◌⊎◌, length, get_or}
use Rattle.scope.specs.Limits.{set_words}

abbrev pub set_bits : ℕ
set_bits = 64 * set_words

-- a word is below 2 ^ 64: the remainder says so of a list that is no buffer of words
unfoldable pub value_at : List ℕ → ℕ → ℕ → ℕ
value_at m at zero = 0
value_at m at (suc w) = value_at m (suc at) w * 2 ^ 64 + get_or m at 0 % 2 ^ 64

abbrev pub set_value : List ℕ → ℕ
set_value m = value_at m 0 set_words

abbrev pub set_at : List ℕ → ℕ → ℕ
set_at m i = value_at m (i * set_words) set_words

pub record Put (m m' : List ℕ) (i s : ℕ) : Type 0 where
  pub size : length m' ≡ length m
  pub here : set_at m' i ≡ s
  pub outside : (j : ℕ) → (j < i * set_words) ⊎ (i * set_words + set_words ≤ j) → get_or m' j 0 ≡ get_or m j 0
