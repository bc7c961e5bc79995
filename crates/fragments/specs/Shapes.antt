-- Parts of a pattern, and how they are made of each other. First and Last of all parts that are being read lie in two sets of the words: their positions are
-- disjoint, so a part that has k positions to its left has there what the two sets have after k up to its count.
--   Overlaid s k n a b: the set b has after k up to n what s has, and elsewhere what a has
--   Cut wanted from to a b: b is a without the positions after `from` up to `to`, unless they are wanted
--   Linked c from to after upto m m': if c, what First has after `after` up to `upto` came into the set of each position that Last has after `from` up to `to`
--   Alone, Blank, Beside, Either, Moved: the parts that a position, no position, two parts side by side, one or the other, and a part read further are
--   WithMark repeats skips k a next m m' r: r is a with a mark after it
use Rattle.std.specs.Prelude.{ℕ, ◌+◌, ◌^◌, ◌<◌, ◌≤◌, ◌≡◌, Bool, false, not, ◌&&◌, ◌||◌, List, ◌⊎◌}
use Rattle.scope.specs.Bytes.{between}
use Rattle.scope.specs.Positions.Bits.{has}
use Rattle.scope.specs.Operations.Buffers.{TailKept}
use Rattle.sets.specs.Value.{set_bits, set_at}
use Rattle.sets.specs.Layout.{first_at, last_at, read_words}
use Rattle.fragments.specs.declared.Fragment.{Fragment}

pub record Overlaid (s k n a b : ℕ) : Type 0 where
  pub inside : (p : ℕ) → p < set_bits → k < p → p ≤ n → has b p ≡ has s p
  pub outside : (p : ℕ) → p < set_bits → (p ≤ k) ⊎ (n < p) → has b p ≡ has a p

pub record Cut (wanted : Bool) (from to a b : ℕ) : Type 0 where
  pub bits : (p : ℕ) → p < set_bits → has b p ≡ (has a p && (wanted || not (between (from + 1) to p)))

pub record Linked (c : Bool) (from to after upto : ℕ) (m m' : List ℕ) : Type 0 where
  pub kept : TailKept read_words m m'
  pub bits : (p q : ℕ) → p ≤ last_at → q < set_bits
      → has (set_at m' p) q ≡ (has (set_at m p) q || ((c && (between (from + 1) to p && has (set_at m last_at) p)) && (has (set_at m first_at) q && between (after + 1) upto q)))

pub record Alone (next count : ℕ) (m m' : List ℕ) (r : Fragment) : Type 0 where
  pub nexts : r.next ≡ next
  pub counts : r.count ≡ count + 1
  pub nulls : r.null ≡ false
  pub firsts : Overlaid (2 ^ (count + 1)) count (count + 1) (set_at m first_at) (set_at m' first_at)
  pub lasts : Overlaid (2 ^ (count + 1)) count (count + 1) (set_at m last_at) (set_at m' last_at)
  pub follows : (p : ℕ) → 0 < p → p < set_bits → set_at m' p ≡ set_at m p
  pub kept : TailKept read_words m m'

pub record Blank (next count : ℕ) (null : Bool) (r : Fragment) : Type 0 where
  pub nexts : r.next ≡ next
  pub counts : r.count ≡ count
  pub nulls : r.null ≡ null

pub record Beside (k : ℕ) (a b : Fragment) (m m' : List ℕ) (r : Fragment) : Type 0 where
  pub nexts : r.next ≡ b.next
  pub counts : r.count ≡ b.count
  pub nulls : r.null ≡ (a.null && b.null)
  pub firsts : Cut a.null a.count b.count (set_at m first_at) (set_at m' first_at)
  pub lasts : Cut b.null k a.count (set_at m last_at) (set_at m' last_at)
  pub follows : (p q : ℕ) → 0 < p → p < set_bits → q < set_bits
      → has (set_at m' p) q ≡ (has (set_at m p) q || ((between (k + 1) a.count p && has (set_at m last_at) p) && (has (set_at m first_at) q && between (a.count + 1) b.count q)))
  pub kept : TailKept read_words m m'

pub record Either (a b r : Fragment) : Type 0 where
  pub nexts : r.next ≡ b.next
  pub counts : r.count ≡ b.count
  pub nulls : r.null ≡ (a.null || b.null)

pub record Moved (a : Fragment) (next : ℕ) (null : Bool) (r : Fragment) : Type 0 where
  pub nexts : r.next ≡ next
  pub counts : r.count ≡ a.count
  pub nulls : r.null ≡ null

-- a mark that repeats a links it to itself; one that skips it adds the empty word
pub record WithMark (repeats skips : Bool) (k : ℕ) (a : Fragment) (next : ℕ) (m m' : List ℕ) (r : Fragment) : Type 0 where
  pub linked : Linked repeats k a.count k a.count m m'
  pub moved : Moved a next (skips || a.null) r
