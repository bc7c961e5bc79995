-- The bytes that the positions of an expression hold, in the byte sets of a lent buffer.
--   BytesCame e k m m': the bytes that each position of e holds came in; k positions stand to its left
--   Fillable s: s is a pattern that is not LONG, with as many positions as are taken
--   Filled s m m': the bytes of all positions of s came in (it has one tree: `one-tree`)
use Rattle.std.specs.Prelude.{ℕ, ◌+◌, ◌<◌, ◌≤◌, ◌≡◌, ◌||◌, List, length}
use Rattle.scope.specs.Positions.Bits.{has, holders}
use Rattle.scope.specs.Operations.Buffers.{TailKept}
use Rattle.scope.specs.Limits.{byte_values, pattern_limit, position_limit}
use Rattle.scope.specs.Text.Judge.{Pattern}
use Rattle.scope.specs.Text.Re.{Re, size}
use Rattle.scope.specs.Text.Tree.{Tree, expr}
use Rattle.sets.specs.Layout.{byte_sets, held}

pub record BytesCame (e : Re) (k : ℕ) (m m' : List ℕ) : Type 0 where
  pub kept : TailKept byte_sets m m'
  pub bits : (q b : ℕ) → b < byte_values → held m' q b ≡ (held m q b || has (holders e k b) (q + 1))

pub record Fillable (s : List ℕ) : Type 0 where
  pub short : length s ≤ pattern_limit
  pub tree : Tree
  pub reads : Pattern s tree
  pub brief : size (expr tree) ≤ position_limit

pub record Filled (s m m' : List ℕ) : Type 0 where
  pub says : (t : Tree) → Pattern s t → BytesCame (expr t) 0 m m'
