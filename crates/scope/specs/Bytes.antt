-- Bytes, strings and sets of bytes.
--   Bytes w: w is a string of bytes
--   byte s i: the byte at the place i of the text s; 256, which is none, past its end
--   ByteSet: a set of bytes, by its test
--   between, is_in: the tests from which the sets of 01 are made
--   ascii "..": the bytes of a quoted text
--   listed f n: the list of f 0 .. f (n - 1)
use Rattle.std.specs.Prelude.{ℕ, zero, suc, ◌<◌, Bool, false, ◌&&◌, ◌||◌, List, [], ◌∷◌, ◌++◌, leb, eqb, get_or}
use Prim.Native.Char.{code}
use Prim.Native.String as text
use Rattle.scope.specs.Limits.{byte_values}

-- "Patterns and strings are bytes"
abbrev pub Bytes : List ℕ → Type 0
Bytes [] = Unit {0}
Bytes (b ∷ w) = (b < byte_values) × Bytes w

abbrev pub byte : List ℕ → ℕ → ℕ
byte s i = get_or s i byte_values

abbrev pub ByteSet : Type 0
ByteSet = ℕ → Bool

-- low to high, both included
unfoldable pub between : ℕ → ℕ → ByteSet
between low high b = leb low b && leb b high

unfoldable pub is_in : List ℕ → ByteSet
is_in [] b = false
is_in (c ∷ l) b = eqb b c || is_in l b

-- the bytes of a quoted text, for the bytes and lines that 01 shows by their signs
abbrev pub ascii : text.String → List ℕ
ascii text.[] = []
ascii (text.◌∷◌ c s) = code c ∷ ascii s

unfoldable pub listed : (ℕ → ℕ) → ℕ → List ℕ
listed f zero = []
listed f (suc n) = listed f n ++ (f n ∷ [])
