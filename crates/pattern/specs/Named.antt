-- Where a text names a byte. 02, C-16: "A class or `\x0A` can still name that byte."
--   Names s b i: at the place i of s stands a class that has the byte b, or an escape that is b
--   TakenAt s t u b v q: the position q of the tree t takes the byte b of a word that has u before it and v behind it, and at its place s names b
use Rattle.std.specs.Prelude.{ℕ, ◌-◌, ◌≡◌, true, List, [], ◌∷◌, ◌++◌, get_or}
use Rattle.scope.specs.Machines.Machine.{walk}
use Rattle.scope.specs.Positions.Bits.{has, move}
use Rattle.scope.specs.Positions.Sets.{Path}
use Rattle.scope.specs.Text.Grammar.{Escape, Single}
use Rattle.scope.specs.Text.Tree.{Item, class, Tree, items_set, expr, places}

pub data Names (s : List ℕ) (b i : ℕ) : Type 0 where
  in_class : {j : ℕ} {l : List Item} → Single s i j (class l) → items_set l b ≡ true → Names s b i
  as_escape : {j : ℕ} → Escape s i j b → Names s b i

pub record TakenAt (s : List ℕ) (t : Tree) (u : List ℕ) (b : ℕ) (v : List ℕ) (q : ℕ) : Type 0 where
  -- from {0}
  pub reached : has (walk (move (expr t)) 1 (u ++ b ∷ [])) q ≡ true
  pub onward : Path (expr t) q v
  -- positions are numbered from 1, and `places` has them from left to right
  pub named : Names s b (get_or (places t) (q - 1) 0)
