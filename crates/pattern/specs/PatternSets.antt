-- What reading promises: the sets of 01, "Positions to machine", for the tree of a text that has been judged.
--   Faultless s: s is a pattern with neither LONG, RANGE, DEPTH nor POSITIONS
--   Clear n m: the first n of a buffer are there, and are zero
--   Shaped e y y' w w' r: r, the bytes y' and the words w' have the sets of e; the rest of y and w is kept
--   Reading s y y' w w' r: so it is for the tree of s (of which there is one: `one-tree`)
use Rattle.std.specs.Prelude.{ℕ, ◌+◌, ◌<◌, ◌≤◌, ◌≡◌, List, length, get_or}
use Rattle.scope.specs.Positions.Bits.{has, null, first, last, follow, holders}
use Rattle.scope.specs.Operations.Buffers.{TailKept}
use Rattle.scope.specs.Operations.Compile.{Sized}
use Rattle.scope.specs.Text.Judge.{Pattern}
use Rattle.scope.specs.Limits.{byte_values, pattern_limit, position_limit}
use Rattle.scope.specs.Text.Re.{Re, size}
use Rattle.scope.specs.Text.Tree.{Tree, expr}
use Rattle.sets.specs.Value.{set_bits, set_value, set_at}
use Rattle.pattern.specs.declared.Shape.{Shape}
use Rattle.sets.specs.Layout.{byte_sets, held, first_at, read_words}

pub record Faultless (s : List ℕ) : Type 0 where
  pub short : length s ≤ pattern_limit
  pub tree : Tree
  pub sized : Sized s tree

pub record Clear (n : ℕ) (m : List ℕ) : Type 0 where
  pub long : n ≤ length m
  pub zero : (i : ℕ) → i < n → get_or m i 0 ≡ 0

pub record Shaped (e : Re) (y y' w w' : List ℕ) (r : Shape) : Type 0 where
  pub sizes : r.size ≡ size e
  pub nulls : r.null ≡ null e
  pub firsts : set_at w' first_at ≡ first e 0
  pub lasts : set_value r.last.words ≡ last e 0
  -- what follows the position p is the set number p; the sets of the numbers that are no positions are empty
  pub follows : (p : ℕ) → 0 < p → p < set_bits → set_at w' p ≡ follow e 0 p
  -- the bytes that the position q + 1 holds are the byte set number q
  pub holds : (q b : ℕ) → q < position_limit → b < byte_values → held y' q b ≡ has (holders e 0 b) (q + 1)
  pub words_kept : TailKept read_words w w'
  pub bytes_kept : TailKept byte_sets y y'

pub record Reading (s y y' w w' : List ℕ) (r : Shape) : Type 0 where
  pub says : (t : Tree) → Pattern s t → Shaped (expr t) y y' w w' r
