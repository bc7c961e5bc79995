-- A text byte by byte: where a byte stands inside of it, and how a byte is read. The end of the text is read as 256, which passes no test of the grammar.
--   inside, byte_here: a place inside of the text; the byte there
--   escape_in, class_byte_in, item_in, items_in, single_in: what is read ends inside of the text
--   escape_two, coded_in, coded_digits, escape_coded, escape_plain, class_escape, class_bare: the first bytes of an escape, and of a byte in a class, decide how
--   it is read
--   was_byte, no_byte: what a test of an optional byte says
--   some_digit, of_digit: a digit has a value, which is that
use Prim.Native.Nat.{ℕ, ◌+◌, ◌*◌, ◌<◌, ◌≤◌}
use Prim.Native.Char.{code}
use Rattle.std.specs.Prelude.{Option, Some, None, IsSome, SomeIff}
use mathlib.Core.Path.{◌≡◌, refl, sym, ap, ◌∙◌}
use mathlib.Core.Bool.{true, false, false≢true}
use mathlib.Core.List.{List}
use mathlib.Core.Logic.{inl, inr}
use native.Mathlib.Omega.{arith}
use lib.Dec.{eqb}
use lib.ListN.{length, get_or, get_or-eq_default}
use Rattle.std.specs.Option.{option_eq}
use Rattle.scope.specs.Limits.{byte_values}
use Rattle.scope.specs.Bytes.{byte}
use Rattle.scope.specs.Text.Tree.{Item, Leaf}
use Rattle.scope.specs.Text.Grammar.{literal, escapable, class_literal, hex, Escape, plain, coded, ClassByte, bare, escaped, OneItem, one_byte, low_high, Items, last_item, more_items, Single, a_dot, a_literal, an_escape, a_class}
use Rattle.scope.proofs.Counting.Tests.{split, equals}
use Rattle.scope.proofs.Counting.Lists.{any_default}
use Rattle.scope.proofs.Text.Grammar.{other, escape_head}
use Rattle.leaves.specs.ReadAt.{byte_of}

-- a byte that is not read as 256 stands inside of the text
pub inside : (s : List ℕ) (i : ℕ) → (byte s i ≡ byte_values → ⊥) → i < length s
inside s i n = elim (split i (length s)) [ inl h ↦ h | inr h ↦ absurd (n (get_or-eq_default s byte_values h)) ]

pub byte_here : (s : List ℕ) (i : ℕ) → i < length s → get_or s i 0 ≡ byte s i
byte_here s i h = any_default s i 0 byte_values h

-- ---- what is read ends inside of the text

module _ {s : List ℕ} where
  pub escape_in : {i j b : ℕ} → Escape s i j b → j ≤ length s
  unfolding escapable hex
  escape_in {i} (plain h k) = omega (arith, inside s (i + 1) (other escapable k refl))
  escape_in {i} (coded h k l m) = omega (arith, inside s (i + 3) (λ e. omega (arith, ap hex e)))

  pub class_byte_in : {i j b : ℕ} → ClassByte s i j b → j ≤ length s
  unfolding class_literal
  class_byte_in {i} (bare h) = omega (arith, inside s i (other class_literal h refl))
  class_byte_in (escaped x) = escape_in x

  pub item_in : {i j : ℕ} {x : Item} → OneItem s i j x → j ≤ length s
  item_in (one_byte c) = class_byte_in c
  item_in (low_high c h d) = class_byte_in d

  pub items_in : {i j : ℕ} {l : List Item} → Items s i j l → j ≤ length s
  items_in (last_item x) = item_in x
  items_in (more_items x l) = items_in l

  pub single_in : {i j : ℕ} {x : Leaf} → Single s i j x → j ≤ length s
  unfolding literal
  single_in {i} (a_dot h) = omega (arith, inside s i (λ e. omega arith))
  single_in {i} (a_literal h) = omega (arith, inside s i (other literal h refl))
  single_in (an_escape e) = escape_in e
  single_in (a_class {j = j} h l k) = omega (arith, inside s j (λ e. omega arith))

-- ---- how a byte is read

module _ {s : List ℕ} where
  -- the byte after the backslash stands inside of the text
  pub escape_two : {i j b : ℕ} → Escape s i j b → i + 1 < length s
  unfolding escapable
  escape_two {i} (plain h k) = inside s (i + 1) (other escapable k refl)
  escape_two {i} (coded h k l m) = inside s (i + 1) (λ e. omega arith)

  -- `\x`: so do two digits
  pub coded_in : {i j b a : ℕ} → Escape s i j b → a ≡ byte s (i + 1) → a ≡ code "x" → i + 3 < length s
  unfolding escapable hex
  coded_in (plain h k) p e = absurd (other escapable k refl (sym p ∙ e))
  coded_in {i} (coded h k l m) p e = inside s (i + 3) (λ z. omega (arith, ap hex z))

  pub coded_digits : {i j b a : ℕ} → Escape s i j b → a ≡ byte s (i + 1) → a ≡ code "x" → (hex (get_or s (i + 2) 0) < 16) × (hex (get_or s (i + 3) 0) < 16)
  unfolding escapable
  coded_digits (plain h k) p e = absurd (other escapable k refl (sym p ∙ e))
  coded_digits {i} (coded h k l m) p e =
      let n = coded_in (coded h k l m) p e in
      rw (byte_here s (i + 2) (omega arith), byte_here s (i + 3) n) (l, m)

  -- and their values make the byte
  pub escape_coded : {i j b a h l : ℕ} → Escape s i j b → a ≡ byte s (i + 1) → a ≡ code "x" → h ≡ hex (get_or s (i + 2) 0) → l ≡ hex (get_or s (i + 3) 0) → Escape s i (i + 4) (h * 16 + l)
  unfolding escapable
  escape_coded (plain h k) p e e₂ e₃ = absurd (other escapable k refl (sym p ∙ e))
  escape_coded {i} (coded h k l m) p e e₂ e₃ =
      let n = coded_in (coded h k l m) p e in
      rw (e₂, byte_here s (i + 2) (omega arith), e₃, byte_here s (i + 3) n) (coded h k l m)

  -- another escape: that byte
  pub escape_plain : {i j b a : ℕ} → Escape s i j b → a ≡ byte s (i + 1) → (a ≡ code "x" → ⊥) → Escape s i (i + 2) a
  unfolding escapable
  escape_plain (plain h k) p n = rw p (plain h k)
  escape_plain (coded h k l m) p n = absurd (n (p ∙ k))

  -- a byte in a class, by its first byte
  pub class_escape : {i j b : ℕ} → ClassByte s i j b → byte s i ≡ code "\\" → Escape s i j b
  unfolding class_literal
  class_escape (bare h) e = absurd (other class_literal h refl e)
  class_escape (escaped x) e = x

  pub class_bare : {i j b a : ℕ} → ClassByte s i j b → a ≡ byte s i → (a ≡ code "\\" → ⊥) → ClassByte s i (i + 1) a
  unfolding class_literal
  class_bare (bare h) p n = rw p (bare h)
  class_bare (escaped x) p n = absurd (n (p ∙ escape_head x))

-- ---- a byte that may be past the end of the text

pub was_byte : (o : Option ℕ) (b : ℕ) → option_eq eqb o (Some b) ≡ true → byte_of o ≡ b
was_byte None b h = cc
was_byte (Some x) b h = sym ((equals x b).sound h)

pub no_byte : (o : Option ℕ) (b : ℕ) → b < byte_values → option_eq eqb o (Some b) ≡ false → byte_of o ≡ b → ⊥
no_byte None b l h e = omega arith
no_byte (Some x) b l h e = false≢true (sym h ∙ (equals x b).full (sym e))

-- ---- the value of a digit

pub some_digit : {n : ℕ} (o : Option ℕ) → SomeIff o (n < 16) n → n < 16 → IsSome o
some_digit None d h = absurd (d h)
some_digit (Some v) d h = refl

pub of_digit : {n v : ℕ} (o : Option ℕ) → SomeIff o (n < 16) n → o ≡ Some v → v ≡ n
of_digit None d e = cc
of_digit (Some w) d e = cc (d.1)
