-- Two tests, or two values, that are the same on every byte, by computing.
--   same_bytes: the tests f and g are the same on every byte
--   twelve_is, escapable_is, bare_is: the code's tests
--   digit_is: the value of a hex digit, by the library's, which goes up to 36
use Prim.Native.Char.{code}
use Prim.Native.Nat.{ℕ, ◌<◌, min}
use mathlib.Core.Path.{◌≡◌, refl}
use mathlib.Core.Bool.{true, ◌||◌, beq}
use lib.Dec.{eqb}
use Rattle.std.specs.Char.{digit_value}
use Rattle.scope.specs.Limits.{byte_values}
use Rattle.scope.specs.Bytes.{ByteSet, between}
use Rattle.scope.specs.Text.Grammar.{twelve, escapable, class_literal, hex}
use Rattle.scope.proofs.Counting.Tests.{all, all_is, same_bool, equals}

same_bytes : (f g : ByteSet) → all (λ b. beq (f b) (g b)) byte_values ≡ true → (b : ℕ) → b < byte_values → f b ≡ g b
same_bytes f g e b h = (same_bool (f b) (g b)).sound ((all_is (λ b. beq (f b) (g b)) byte_values).sound e b h)

pub twelve_is : (b : ℕ) → b < byte_values
    → ((((between (code "(") (code "+") b || eqb b (code ".")) || eqb b (code "?")) || between (code "[") (code "]") b) || between (code "{") (code "}") b) ≡ twelve b
unfolding between twelve
twelve_is = same_bytes _ twelve refl

pub escapable_is : (b : ℕ) → b < byte_values → ((twelve b || eqb b (code "^")) || eqb b (code "-")) ≡ escapable b
unfolding escapable
escapable_is = same_bytes _ escapable refl

pub bare_is : (b : ℕ) → b < byte_values → ((between (code " ") (code ",") b || between (code ".") (code "Z") b) || between (code "_") (code "~") b) ≡ class_literal b
unfolding class_literal
bare_is = same_bytes _ class_literal refl

pub digit_is : (b : ℕ) → b < byte_values → min (digit_value b) 16 ≡ hex b
unfolding hex
digit_is b h = (equals _ _).sound ((all_is (λ i. eqb (hex i) (min (digit_value i) 16)) byte_values).sound refl b h)
