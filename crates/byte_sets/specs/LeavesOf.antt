-- The leaves of a text from a place on: the atoms that are one position, from left to right. How they are joined is left out.
--   is_frame: the bytes that stand around leaves: parentheses, the bar, the marks
--   is_blank: the bytes that after a backslash make an atom with no position
--   LeavesFrom s i l: from i to its end the text has the leaves l, and else only frame and blank atoms
--   LeafAt s i l: so it is, and the first of them begins at i
--   NextLeaf s i r: whatever leaves there are from i on, the first begins at r
--   LeafFound s i o: so it is for the place o, which lies inside of the text and not before i; or there are none
use Rattle.std.specs.Prelude.{ℕ, ◌+◌, ◌<◌, ◌≤◌, ◌≡◌, true, ◌||◌, List, [], ◌∷◌, eqb, length, Option, MatchOption}
use Prim.Native.Char.{code}
use Rattle.scope.specs.Bytes.{ByteSet, byte}
use Rattle.scope.specs.Text.Grammar.{is_mark, Single}
use Rattle.scope.specs.Text.Tree.{Leaf}

unfoldable pub is_frame : ByteSet
is_frame b = is_mark b || eqb b (code "(") || eqb b (code ")") || eqb b (code "|")

-- `\e` and `\0`
unfoldable pub is_blank : ByteSet
is_blank b = eqb b (code "e") || eqb b (code "0")

pub data LeavesFrom (s : List ℕ) : ℕ → List Leaf → Type 0 where
  over : LeavesFrom s (length s) []
  frame : {i : ℕ} {l : List Leaf} → is_frame (byte s i) ≡ true → LeavesFrom s (i + 1) l → LeavesFrom s i l
  blank : {i : ℕ} {l : List Leaf} → byte s i ≡ code "\\" → is_blank (byte s (i + 1)) ≡ true → LeavesFrom s (i + 2) l → LeavesFrom s i l
  leaf : {i j : ℕ} {x : Leaf} {l : List Leaf} → Single s i j x → LeavesFrom s j l → LeavesFrom s i (x ∷ l)

pub data LeafAt (s : List ℕ) : ℕ → List Leaf → Type 0 where
  none_left : LeafAt s (length s) []
  here : {i j : ℕ} {x : Leaf} {l : List Leaf} → Single s i j x → LeavesFrom s j l → LeafAt s i (x ∷ l)

abbrev pub NextLeaf : List ℕ → ℕ → ℕ → Type 0
NextLeaf s i r = (l : List Leaf) → LeavesFrom s i l → LeafAt s r l

abbrev pub LeafFound : List ℕ → ℕ → Option ℕ → Type 0
LeafFound s i o = MatchOption o (NextLeaf s i (length s)) (λ r. (i ≤ r) × (r < length s) × NextLeaf s i r)
