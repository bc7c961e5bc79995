-- Runs of byte values, each known by its last byte, its end. The ends are bits of words, 64 byte values a word.
--   last_byte: the last byte value
--   is_end ends b: b is an end
--   NoEnd ends a b: no byte from a up to b is an end
--   RunEnd ends b e: e is the end of the run that b is in
--   EightBytes m at x: x has the bits of the eight bytes from `at` on
--   Like m n a b: each of the first n positions holds both a and b or neither
--   EndsNoted m p old new e: a byte below e is no end in `new` only if it is none in `old`, and the position p + 1 holds both it and the next or neither; `new` has words
--   RunsOf R ends: two bytes with no end from the one up to the other are alike by R, and 255 is an end
use Rattle.std.specs.Prelude.{ℕ, ◌+◌, ◌-◌, ◌/◌, ◌%◌, ◌^◌, ◌<◌, ◌≤◌, ◌≡◌, Bool, true, false, List, get_or}
use Rattle.scope.specs.Limits.{byte_values}
use Rattle.scope.specs.Positions.Bits.{has}
use Rattle.sets.specs.Layout.{bit_at}

abbrev pub last_byte : ℕ
last_byte = byte_values - 1

abbrev pub is_end : List ℕ → ℕ → Bool
is_end ends b = has (get_or ends (b / 64) 0) (b % 64)

abbrev pub NoEnd : List ℕ → ℕ → ℕ → Type 0
NoEnd ends a b = (c : ℕ) → c < b → a ≤ c → is_end ends c ≡ false

pub record RunEnd (ends : List ℕ) (b e : ℕ) : Type 0 where
  pub upto : b ≤ e
  pub byte : e < byte_values
  pub end : is_end ends e ≡ true
  pub before : NoEnd ends b e

pub record EightBytes (m : List ℕ) (at x : ℕ) : Type 0 where
  pub bits : (j : ℕ) → j < 64 → x / 2 ^ j % 2 ≡ get_or m (at + j / 8) 0 / 2 ^ (j % 8) % 2

abbrev pub Like : List ℕ → ℕ → ℕ → ℕ → Type 0
Like m n a b = (p : ℕ) → p < n → bit_at m p a ≡ bit_at m p b

pub record EndsNoted (m : List ℕ) (p : ℕ) (old new : List ℕ) (e : ℕ) : Type 0 where
  pub fits : (w : ℕ) → get_or new w 0 < 2 ^ 64
  pub none : (b : ℕ) → b < e → is_end new b ≡ false → (is_end old b ≡ false) × (bit_at m p b ≡ bit_at m p (b + 1))

pub record RunsOf (R : ℕ → ℕ → Type 0) (ends : List ℕ) : Type 0 where
  pub last : is_end ends last_byte ≡ true
  pub alike : (a b : ℕ) → a ≤ b → b < byte_values → NoEnd ends a b → R a b
