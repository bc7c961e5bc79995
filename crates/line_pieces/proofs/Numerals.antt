-- Numbers in decimal and words in hex, digit by digit. By induction on the bound of `digits`, and on the word.
--   decimal_few, decimal_one, decimal_more: a number of one digit, and of more
--   decimal_longer, decimal_short, number_short: how many digits it has; below 10 ^ (k + 1) at most k + 1, of 64 bits 20
--   hex_low, hex_high: a hex digit below ten, and the others
--   hexes_join, hexes_length: the digits of a word are those of its parts, two a byte
--   shown_none, shown_some: an empty word, and any other
--   shown_length, shown_short: how many bytes are shown
use Prim.Native.Nat.{ℕ, zero, suc, ◌+◌, ◌*◌, ◌^◌, ◌/◌, ◌%◌, ◌≤◌, ◌<◌}
use mathlib.Core.Path.{◌≡◌, refl, sym, ap, ◌∙◌}
use mathlib.Core.List.{List, [], ◌∷◌, ◌++◌}
use mathlib.Core.Logic.{inl, inr}
use native.Mathlib.Omega.{arith}
use native.Mathlib.Nat.{pow-suc}
use lib.ListN.{length, length-append}
use borrow.Author.Tests.{lt-ltb, le-ltb}
use Rattle.scope.proofs.Counting.Tests.{split}
use Rattle.scope.specs.Bytes.{ascii}
use Rattle.scope.specs.Lines.{digits, decimal, hex_digit, hexes, shown}

-- ---- decimal

digits_few : (m n : ℕ) → n < 10 → digits (suc m) n ≡ (48 + n) ∷ []
unfolding digits
digits_few m n h = rw (lt-ltb n 10 h, digits)

digits_more : (m n : ℕ) → 10 ≤ n → digits (suc m) n ≡ digits m (n / 10) ++ ((48 + n % 10) ∷ [])
unfolding digits
digits_more m n h = rw (le-ltb n 10 h, digits)

-- any bound above the number will do
digits_enough : (m k n : ℕ) → n < m → n < k → digits m n ≡ digits k n
digits_enough zero k n h g = absurd (omega arith)
digits_enough (suc m) zero n h g = absurd (omega arith)
digits_enough (suc m) (suc k) n h g =
    elim (split n 10) [
      | inl few ↦ digits_few m n few ∙ sym (digits_few k n few)
      | inr more ↦
          digits_more m n more
          ∙ ap (λ l. l ++ ((48 + n % 10) ∷ [])) (digits_enough m k (n / 10) (omega arith) (omega arith))
          ∙ sym (digits_more k n more)
    ]

pub decimal_few : (n : ℕ) → n < 10 → decimal n ≡ (48 + n) ∷ []
unfolding decimal
decimal_few n h = digits_few n n h

pub decimal_one : (n : ℕ) → n < 10 → decimal n ≡ (48 + n % 10) ∷ []
decimal_one n h = decimal_few n h ∙ ap (λ d. (48 + d) ∷ []) (omega arith)

pub decimal_more : (n : ℕ) → 10 ≤ n → decimal n ≡ decimal (n / 10) ++ ((48 + n % 10) ∷ [])
unfolding decimal
decimal_more n h = digits_more n n h ∙ ap (λ l. l ++ ((48 + n % 10) ∷ [])) (digits_enough n (suc (n / 10)) (n / 10) (omega arith) (omega arith))

pub decimal_longer : (n : ℕ) → 10 ≤ n → length (decimal n) ≡ length (decimal (n / 10)) + 1
decimal_longer n h = ap length (decimal_more n h) ∙ length-append (decimal (n / 10)) ((48 + n % 10) ∷ [])

pub decimal_short : (k n : ℕ) → n < 10 ^ suc k → length (decimal n) ≤ suc k
decimal_short zero n h = omega (arith, ap length (decimal_few n h))
decimal_short (suc k) n h =
    elim (split n 10) [
      | inl few ↦ omega (arith, ap length (decimal_few n few))
      | inr more ↦ omega (arith, decimal_longer n more, decimal_short k (n / 10) (omega (arith, pow-suc 10 (suc k))))
    ]

-- a number of 64 bits
pub number_short : (n : ℕ) → n < 2 ^ 64 → length (decimal n) ≤ 20
number_short n h = decimal_short 19 n (omega arith)

-- ---- hex

pub hex_low : (d : ℕ) → d < 10 → hex_digit d ≡ 48 + d
unfolding hex_digit
hex_low d h = rw (lt-ltb d 10 h)

pub hex_high : (d : ℕ) → 10 ≤ d → hex_digit d ≡ 97 + d % 10
unfolding hex_digit
hex_high d h = rw (le-ltb d 10 h)

pub hexes_join : (u v : List ℕ) → hexes (u ++ v) ≡ hexes u ++ hexes v
unfolding hexes
hexes_join [] v = refl
hexes_join (b ∷ u) v = ap (λ l. hex_digit (b / 16) ∷ hex_digit (b % 16) ∷ l) (hexes_join u v)

pub hexes_length : (w : List ℕ) → length (hexes w) ≡ 2 * length w
unfolding hexes
hexes_length [] = refl
hexes_length (b ∷ w) = omega (arith, hexes_length w)

pub shown_none : (w : List ℕ) → length w ≡ 0 → shown w ≡ ascii "-"
unfolding shown
shown_none [] h = refl
shown_none (b ∷ w) h = absurd (omega arith)

pub shown_some : (w : List ℕ) → 0 < length w → shown w ≡ hexes w
unfolding shown
shown_some [] h = absurd (omega arith)
shown_some (b ∷ w) h = refl

pub shown_length : (w : List ℕ) → 0 < length w → length (shown w) ≡ 2 * length w
shown_length w h = ap length (shown_some w h) ∙ hexes_length w

pub shown_short : (w : List ℕ) → length (shown w) ≤ 2 * length w + 1
shown_short w = elim (split 0 (length w)) [ inl h ↦ omega (arith, shown_length w h) | inr h ↦ omega (arith, ap length (shown_none w (omega arith))) ]
