-- What can be read at a place. The grammar recurses on the left, a reader goes from left to right: it has read an atom and some marks, and others are left.
--   GroupAt s i: there is a `(` at i
--   MarkAt s i o: o is the mark at i, if there is one
--   closes_expr, stops: the bytes that end an expression, and those that end a branch; the end of the text is one of them
--   EndsLevel l b: an l does not go on with the byte b
--   WholeLevel l s i j t: an l, with the tree t, that does not go on
--   MarksLeft s t j u k: the tree t was read up to j; the marks that are left make it the factor with the tree u, up to k
use Rattle.std.specs.Prelude.{ℕ, ◌+◌, ◌≡◌, true, false, ◌||◌, List, eqb, Option, MatchOption}
use Prim.Native.Char.{code}
use Rattle.scope.specs.Bytes.{ByteSet, byte}
use Rattle.scope.specs.Text.Grammar.{is_mark, mark_byte, Level, atoms, factors, branches, exprs, Reads}
use Rattle.scope.specs.Limits.{byte_values}
use Rattle.scope.specs.Text.Tree.{Mark, Tree, marked}

abbrev pub GroupAt : List ℕ → ℕ → Type 0
GroupAt s i = byte s i ≡ code "("

abbrev pub MarkAt : List ℕ → ℕ → Option ℕ → Type 0
MarkAt s i o = MatchOption o (is_mark (byte s i) ≡ false) (λ b. (b ≡ byte s i) × (is_mark b ≡ true))

unfoldable pub closes_expr : ByteSet
closes_expr b = eqb b (code ")") || eqb b byte_values

unfoldable pub stops : ByteSet
unfolding closes_expr
stops b = closes_expr b || eqb b (code "|")

abbrev pub EndsLevel : Level → ℕ → Type 0
EndsLevel atoms b = Unit {0}
EndsLevel factors b = is_mark b ≡ false
EndsLevel branches b = stops b ≡ true
EndsLevel exprs b = closes_expr b ≡ true

abbrev pub WholeLevel : Level → List ℕ → ℕ → ℕ → Tree → Type 0
WholeLevel l s i j t = Reads s l i j t × EndsLevel l (byte s j)

pub data MarksLeft (s : List ℕ) : Tree → ℕ → Tree → ℕ → Type 0 where
  done : {t : Tree} {j : ℕ} → MarksLeft s t j t j
  a_mark : {t u : Tree} {j k : ℕ} (m : Mark) → byte s j ≡ mark_byte m → MarksLeft s (marked m t) (j + 1) u k → MarksLeft s t j u k
