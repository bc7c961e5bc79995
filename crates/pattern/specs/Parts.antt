-- What is read part by part: a branch of factors, an expression of branches. The grammar recurses on the left, a reader goes from left to right: it has read some
-- parts, or none yet, and others are left.
--   part_of l: the level of the parts of an l
--   GoesOn l b: after a part an l goes on with the byte b
--   after_bar l j: where its next part begins, after one that ends at j
--   SoFar: what was read so far, nothing or a tree
--   grown l so t: the tree with one part more
--   re_of l so: the expression of what was read; nothing counts as the empty word beside others, and as no word joined with others
--   PartsLeft s l so j u k: after what was read so far, the parts from j on make the l with the tree u, up to k
--   Going l s k w w' g u j: g is a first part of the l with the tree u that ends at j, with parts left
--   Begun l s i k w w' g: so it is for every l that can be read at i
use Rattle.std.specs.Prelude.{ℕ, ◌+◌, ◌≡◌, false, List}
use Prim.Native.Char.{code}
use Rattle.scope.specs.Bytes.{byte}
use Rattle.scope.specs.Text.Grammar.{Level, atoms, factors, branches, exprs}
use Rattle.scope.specs.Text.Re.{Re, none, eps}
use Rattle.scope.specs.Text.Tree.{Tree, beside, either, expr}
use Rattle.fragments.specs.declared.Fragment.{Fragment}
use Rattle.factors.specs.Tails.{stops, WholeLevel}
use Rattle.factors.specs.Right.{Right}

abbrev pub part_of : Level → Level
part_of exprs = branches
part_of branches = factors
part_of factors = atoms
part_of atoms = atoms

abbrev pub GoesOn : Level → ℕ → Type 0
GoesOn exprs b = b ≡ code "|"
GoesOn branches b = stops b ≡ false
GoesOn factors b = ⊥
GoesOn atoms b = ⊥

abbrev pub after_bar : Level → ℕ → ℕ
after_bar exprs j = j + 1
after_bar branches j = j
after_bar factors j = j
after_bar atoms j = j

pub data SoFar : Type 0 where
  nothing_yet : SoFar
  so_far : Tree → SoFar

abbrev pub grown : Level → SoFar → Tree → Tree
grown l nothing_yet t = t
grown exprs (so_far u) t = either u t
grown branches (so_far u) t = beside u t
grown factors (so_far u) t = beside u t
grown atoms (so_far u) t = beside u t

abbrev pub re_of : Level → SoFar → Re
re_of l (so_far t) = expr t
re_of exprs nothing_yet = none
re_of branches nothing_yet = eps
re_of factors nothing_yet = eps
re_of atoms nothing_yet = eps

pub data PartsLeft (s : List ℕ) (l : Level) : SoFar → ℕ → Tree → ℕ → Type 0 where
  last_part : {so : SoFar} {t u : Tree} {j k : ℕ} → WholeLevel (part_of l) s j k t → u ≡ grown l so t → PartsLeft s l so j u k
  more_parts : {so : SoFar} {t u : Tree} {j k m : ℕ} → WholeLevel (part_of l) s j m t → GoesOn l (byte s m) → PartsLeft s l (so_far (grown l so t)) (after_bar l m) u k → PartsLeft s l so j u k

pub record Going (l : Level) (s : List ℕ) (k : ℕ) (w w' : List ℕ) (g : Fragment) (u : Tree) (j : ℕ) : Type 0 where
  pub so : SoFar
  pub right : Right (re_of l so) k w w' g
  pub left : PartsLeft s l so g.next u j

pub record Begun (l : Level) (s : List ℕ) (i k : ℕ) (w w' : List ℕ) (g : Fragment) : Type 0 where
  pub says : (j : ℕ) (t : Tree) → WholeLevel l s i j t → Going l s k w w' g t j
