-- What can be read at a place of the text, and what a reader of it answers. The text is known to be a pattern, so a contract says that there is something to
-- read, and then speaks of everything that could be read there.
--   Some R s i: at the place i of s, which is not LONG, something can be read by the rule R
--   byte_of o: a byte of code as the grammar has it: the end of the text is 256
--   Backslash s i r: r is the byte after a backslash at i, 256 if there is none
--   WholeItem, WholeItems: an item of a class that no dash goes on with; the items of a class up to its `]`
--   UpTo R P s i r: r lies after i and not past the end of the text, and P holds of the end and the value of whatever is read by R at i
--   EndsAt R s i r: whatever is read by R at i ends at r
--   Took R set s i k m m' r: so it is, and its bytes are put into the set of the position that has k others before it
use Rattle.std.specs.Prelude.{ℕ, ◌+◌, ◌<◌, ◌≤◌, ◌≡◌, List, length, Option, unwrap_or}
use Prim.Native.Char.{code}
use Rattle.scope.specs.Bytes.{ByteSet, byte}
use Rattle.scope.specs.Text.Grammar.{OneItem, Items}
use Rattle.scope.specs.Limits.{byte_values, pattern_limit}
use Rattle.scope.specs.Text.Tree.{Item}
use Rattle.leaves.specs.GrownSets.{SetGrown}

pub record Some {A : Type 0} (R : List ℕ → ℕ → ℕ → A → Type 0) (s : List ℕ) (i : ℕ) : Type 0 where
  pub short : length s ≤ pattern_limit
  pub inside : i < length s
  pub end : ℕ
  pub what : A
  pub reads : R s i end what

abbrev pub byte_of : Option ℕ → ℕ
byte_of o = unwrap_or o byte_values

pub record Backslash (s : List ℕ) (i r : ℕ) : Type 0 where
  pub yes : byte s i ≡ code "\\" → r ≡ byte s (i + 1)
  pub no : (byte s i ≡ code "\\" → ⊥) → r ≡ byte_values

abbrev pub WholeItem : List ℕ → ℕ → ℕ → Item → Type 0
WholeItem s i j x = OneItem s i j x × (byte s j ≡ code "-" → ⊥)

abbrev pub WholeItems : List ℕ → ℕ → ℕ → List Item → Type 0
WholeItems s i j l = Items s i j l × (byte s j ≡ code "]")

pub record UpTo {A : Type 0} (R : List ℕ → ℕ → ℕ → A → Type 0) (P : ℕ → A → Type 0) (s : List ℕ) (i r : ℕ) : Type 0 where
  pub on : i < r
  pub inside : r ≤ length s
  pub says : (j : ℕ) (x : A) → R s i j x → P j x

abbrev pub EndsAt : {A : Type 0} → (List ℕ → ℕ → ℕ → A → Type 0) → List ℕ → ℕ → ℕ → Type 0
EndsAt R s i r = UpTo R (λ j x. r ≡ j) s i r

abbrev pub Took : {A : Type 0} → (List ℕ → ℕ → ℕ → A → Type 0) → (A → ByteSet) → List ℕ → ℕ → ℕ → List ℕ → List ℕ → ℕ → Type 0
Took R set s i k m m' r = UpTo R (λ j x. (r ≡ j) × SetGrown k (set x) m m') s i r
