-- What a reader keeps of an expression that has k positions to its left: a part by value; in the words its First and Last, beside those of all other parts, and the
-- sets that follow its positions.
--   FollowCame e k m m': what follows each position of e came in
--   Right e k w w' g: the part g is right for e, with the words w before it and w' after it
use Rattle.std.specs.Prelude.{ℕ, ◌+◌, ◌<◌, ◌≡◌, ◌||◌, List}
use Rattle.scope.specs.Positions.Bits.{has, null, first, last, follow}
use Rattle.scope.specs.Operations.Buffers.{TailKept}
use Rattle.scope.specs.Text.Re.{Re, size}
use Rattle.sets.specs.Value.{set_bits, set_at}
use Rattle.sets.specs.Layout.{first_at, last_at, read_words}
use Rattle.fragments.specs.declared.Fragment.{Fragment}
use Rattle.fragments.specs.Shapes.{Overlaid}

pub record FollowCame (e : Re) (k : ℕ) (m m' : List ℕ) : Type 0 where
  pub kept : TailKept read_words m m'
  pub bits : (p q : ℕ) → 0 < p → p < set_bits → q < set_bits → has (set_at m' p) q ≡ (has (set_at m p) q || has (follow e k p) q)

pub record Right (e : Re) (k : ℕ) (w w' : List ℕ) (g : Fragment) : Type 0 where
  pub counts : g.count ≡ k + size e
  pub nulls : g.null ≡ null e
  pub firsts : Overlaid (first e k) k g.count (set_at w first_at) (set_at w' first_at)
  pub lasts : Overlaid (last e k) k g.count (set_at w last_at) (set_at w' last_at)
  pub follows : FollowCame e k w w'
