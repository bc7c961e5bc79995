-- What the readers are handed, and what they answer.
--   Readable l k s i: at i an l can be read whose positions fit after k others
--   Fit s k w g: the part g lies in the text, has k positions to its left and its own after them, and there are words for them
--   ReadTree t k w w' g j: the part g is that of the tree t, which ends at j
--   Answer l s i k w w' g: g is the part of every l that can be read at i
--   Marking s k w w' g u j: g is a first part of the factor with the tree u that ends at j: some of its marks are left
--   Carried s k w g w' g': whatever g was a first part of, g' is one of it, too
--   WithMarks s k w g w' g': g' is g with the marks after it
use Rattle.std.specs.Prelude.{ℕ, ◌+◌, ◌<◌, ◌≤◌, ◌≡◌, List, length}
use Rattle.scope.specs.Bytes.{byte}
use Rattle.scope.specs.Text.Grammar.{Level, factors}
use Rattle.scope.specs.Limits.{pattern_limit, position_limit}
use Rattle.scope.specs.Text.Re.{size}
use Rattle.scope.specs.Text.Tree.{Tree, expr}
use Rattle.sets.specs.Value.{set_bits}
use Rattle.fragments.specs.declared.Fragment.{Fragment}
use Rattle.sets.specs.Layout.{read_words}
use Rattle.factors.specs.Tails.{EndsLevel, WholeLevel, MarksLeft}
use Rattle.factors.specs.Right.{Right}

pub record Readable (l : Level) (k : ℕ) (s : List ℕ) (i : ℕ) : Type 0 where
  pub short : length s ≤ pattern_limit
  pub inside : i < length s
  pub end : ℕ
  pub tree : Tree
  pub whole : WholeLevel l s i end tree
  pub brief : k + size (expr tree) ≤ position_limit

pub record Fit (s : List ℕ) (k : ℕ) (w : List ℕ) (g : Fragment) : Type 0 where
  pub short : length s ≤ pattern_limit
  pub inside : g.next ≤ length s
  pub words : read_words ≤ length w
  pub some : k ≤ g.count
  pub few : g.count < set_bits

pub record ReadTree (t : Tree) (k : ℕ) (w w' : List ℕ) (g : Fragment) (j : ℕ) : Type 0 where
  pub next : g.next ≡ j
  pub right : Right (expr t) k w w' g

pub record Answer (l : Level) (s : List ℕ) (i k : ℕ) (w w' : List ℕ) (g : Fragment) : Type 0 where
  pub on : i < g.next
  pub inside : g.next ≤ length s
  pub says : (j : ℕ) (t : Tree) → WholeLevel l s i j t → ReadTree t k w w' g j

pub record Marking (s : List ℕ) (k : ℕ) (w w' : List ℕ) (g : Fragment) (u : Tree) (j : ℕ) : Type 0 where
  pub tree : Tree
  pub right : Right (expr tree) k w w' g
  pub left : MarksLeft s tree g.next u j

pub record Carried (s : List ℕ) (k : ℕ) (w : List ℕ) (g : Fragment) (w' : List ℕ) (g' : Fragment) : Type 0 where
  pub says : (w₀ : List ℕ) (u : Tree) (j : ℕ) → EndsLevel factors (byte s j) → Marking s k w₀ w g u j → Marking s k w₀ w' g' u j

pub record WithMarks (s : List ℕ) (k : ℕ) (w : List ℕ) (g : Fragment) (w' : List ℕ) (g' : Fragment) : Type 0 where
  pub on : g.next ≤ g'.next
  pub inside : g'.next ≤ length s
  pub ends : EndsLevel factors (byte s g'.next)
  pub carried : Carried s k w g w' g'
