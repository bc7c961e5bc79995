-- The tree of a pattern: its meaning, and the places that refusals name.
--   Item: an item of a class; a range has the place of its dash
--   Leaf: what stands at one position
--   Mark: `*`, `+` or `?` after a factor
--   Tree: a pattern; a position has the place of its first byte, a group the place of its `(`
--   dot_set, item_set, set_of: the bytes that a dot, an item and a leaf stand for
--   marking m e: the expression e with the mark m
--   expr t: the expression of a tree
--   falling t: the dashes of the ranges with low above high, left to right
--   opened d t: the `(` that open inside d others and no more, left to right
--   places t: the first byte of each position, left to right
use Rattle.std.specs.Prelude.{ℕ, zero, suc, Bool, true, false, not, ◌&&◌, ◌||◌, List, [], ◌∷◌, ◌++◌, eqb, ltb}
use Rattle.scope.specs.Limits.{byte_values}
use Rattle.scope.specs.Bytes.{ByteSet, between}
use Rattle.scope.specs.Text.Re.{Re, none, eps, one, alt, cat, star, plus}

-- "An item is a byte or a range low_high."
pub data Item : Type 0 where
  lone : ℕ → Item
  -- low, high, the place of the dash
  range : ℕ → ℕ → ℕ → Item

-- "Each literal, byte escape, class and dot is one position"
pub data Leaf : Type 0 where
  dot : Leaf
  letter : ℕ → Leaf
  class : List Item → Leaf

-- `*`, `+` and `?`
pub data Mark : Type 0 where
  many some maybe : Mark

pub data Tree : Type 0 where
  nothing : Tree
  empty : Tree
  position : ℕ → Leaf → Tree
  group : ℕ → Tree → Tree
  marked : Mark → Tree → Tree
  beside : Tree → Tree → Tree
  either : Tree → Tree → Tree

-- ---- meaning

-- 02, C-16: the dot "shall be every byte value except 0x0A"
unfoldable pub dot_set : ByteSet
dot_set b = ltb b byte_values && not (eqb b 0x0A)

unfoldable pub item_set : Item → ByteSet
unfolding between
item_set (lone c) b = eqb b c
item_set (range low high dash) b = between low high b

unfoldable pub items_set : List Item → ByteSet
unfolding item_set
items_set [] b = false
items_set (x ∷ l) b = item_set x b || items_set l b

unfoldable pub set_of : Leaf → ByteSet
unfolding dot_set items_set
set_of dot b = dot_set b
set_of (letter c) b = eqb b c
set_of (class l) b = items_set l b

-- 02, C-11: "F+ is F·F*, F? is F or the empty word, and neither copies a position"
abbrev pub marking : Mark → Re → Re
marking many e = star e
marking some e = plus e
marking maybe e = alt e eps

-- "`\e` (the empty word); `\0` (no word at all)"; "union, product and star"
unfoldable pub expr : Tree → Re
unfolding set_of
expr nothing = none
expr empty = eps
expr (position i x) = one (set_of x)
expr (group i t) = expr t
expr (marked m t) = marking m (expr t)
expr (beside t u) = cat (expr t) (expr u)
expr (either t u) = alt (expr t) (expr u)

-- ---- places

-- whether low is above high: then the place, else none
unfoldable pub only_if : Bool → ℕ → List ℕ
only_if true i = i ∷ []
only_if false i = []

unfoldable pub falling_items : List Item → List ℕ
unfolding only_if
falling_items [] = []
falling_items (lone c ∷ l) = falling_items l
falling_items (range low high dash ∷ l) = only_if (ltb high low) dash ++ falling_items l

unfoldable pub falling_leaf : Leaf → List ℕ
unfolding falling_items
falling_leaf dot = []
falling_leaf (letter c) = []
falling_leaf (class l) = falling_items l

-- "a range has low above high .. its dash"
unfoldable pub falling : Tree → List ℕ
unfolding falling_leaf
falling nothing = []
falling empty = []
falling (position i x) = falling_leaf x
falling (group i t) = falling t
falling (marked m t) = falling t
falling (beside t u) = falling t ++ falling u
falling (either t u) = falling t ++ falling u

-- "a 33rd nested parenthesis opens": one that opens inside 32 others
unfoldable pub opened : ℕ → Tree → List ℕ
opened d nothing = []
opened d empty = []
opened d (position i x) = []
opened zero (group i t) = i ∷ []
opened (suc d) (group i t) = opened d t
opened d (marked m t) = opened d t
opened d (beside t u) = opened d t ++ opened d u
opened d (either t u) = opened d t ++ opened d u

-- "a 64th position .. its first byte"
unfoldable pub places : Tree → List ℕ
places nothing = []
places empty = []
places (position i x) = i ∷ []
places (group i t) = places t
places (marked m t) = places t
places (beside t u) = places t ++ places u
places (either t u) = places t ++ places u
