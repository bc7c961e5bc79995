-- The sets of positions again, as numbers: bit p stands for the position p, bit 0 for the state 0. Of any size: no limit is part of them.
--   has s p: p is in s
--   given c s: s if c, else the empty set
--   joined f n: the union of f 0 .. f (n - 1)
--   null, first, last, follow: as `Null`, `First`, `Last`, `Follow`
--   holders e k b: the positions that hold the byte b
--   after_position e p, final e: where the position automaton goes from p, and where it accepts
--   move e s b: the set after s and the byte b
--   accepting e s: s has a state that accepts
use Rattle.std.specs.Prelude.{ℕ, zero, suc, ◌+◌, ◌/◌, ◌%◌, ◌^◌, Bool, true, false, not, ◌&&◌, ◌||◌, eqb}
use Rattle.std.specs.Int.Bits.{bit_or, bit_and}
use Rattle.scope.specs.Text.Re.{Re, none, eps, one, alt, cat, star, plus, size}

abbrev pub has : ℕ → ℕ → Bool
has s p = eqb (s / 2 ^ p % 2) 1

abbrev pub given : Bool → ℕ → ℕ
given true s = s
given false s = 0

unfoldable pub joined : (ℕ → ℕ) → ℕ → ℕ
joined f zero = 0
joined f (suc n) = bit_or (joined f n) (f n)

unfoldable pub null : Re → Bool
null none = false
null eps = true
null (one s) = false
null (alt e f) = null e || null f
null (cat e f) = null e && null f
null (star e) = true
null (plus e) = null e

unfoldable pub first : Re → ℕ → ℕ
unfolding null
first none k = 0
first eps k = 0
first (one s) k = 2 ^ (k + 1)
first (alt e f) k = bit_or (first e k) (first f (k + size e))
first (cat e f) k = bit_or (first e k) (given (null e) (first f (k + size e)))
first (star e) k = first e k
first (plus e) k = first e k

unfoldable pub last : Re → ℕ → ℕ
unfolding null
last none k = 0
last eps k = 0
last (one s) k = 2 ^ (k + 1)
last (alt e f) k = bit_or (last e k) (last f (k + size e))
last (cat e f) k = bit_or (last f (k + size e)) (given (null f) (last e k))
last (star e) k = last e k
last (plus e) k = last e k

unfoldable pub follow : Re → ℕ → ℕ → ℕ
unfolding first last
follow none k p = 0
follow eps k p = 0
follow (one s) k p = 0
follow (alt e f) k p = bit_or (follow e k p) (follow f (k + size e) p)
follow (cat e f) k p = bit_or (bit_or (follow e k p) (follow f (k + size e) p)) (given (has (last e k) p) (first f (k + size e)))
follow (star e) k p = bit_or (follow e k p) (given (has (last e k) p) (first e k))
follow (plus e) k p = bit_or (follow e k p) (given (has (last e k) p) (first e k))

unfoldable pub holders : Re → ℕ → ℕ → ℕ
holders none k b = 0
holders eps k b = 0
holders (one s) k b = given (s b) (2 ^ (k + 1))
holders (alt e f) k b = bit_or (holders e k b) (holders f (k + size e) b)
holders (cat e f) k b = bit_or (holders e k b) (holders f (k + size e) b)
holders (star e) k b = holders e k b
holders (plus e) k b = holders e k b

unfoldable pub after_position : Re → ℕ → ℕ
unfolding first follow
after_position e zero = first e 0
after_position e (suc p) = follow e 0 (suc p)

unfoldable pub final : Re → ℕ
unfolding null last
final e = bit_or (last e 0) (given (null e) 1)

-- what some position of s leads to, of the positions that hold b
unfoldable pub move : Re → ℕ → ℕ → ℕ
unfolding joined after_position holders
move e s b = bit_and (joined (λ p. given (has s p) (after_position e p)) (size e + 1)) (holders e 0 b)

unfoldable pub accepting : Re → ℕ → Bool
unfolding final
accepting e s = not (eqb (bit_and s (final e)) 0)
