-- Bytes that are put into the byte set of a position.
--   SetGrown k s m m': the bytes of s came into the set number k, and nothing else changed
use Rattle.std.specs.Prelude.{ℕ, ◌<◌, ◌≡◌, ◌&&◌, ◌||◌, List, eqb}
use Rattle.scope.specs.Operations.Buffers.{TailKept}
use Rattle.scope.specs.Bytes.{ByteSet}
use Rattle.scope.specs.Limits.{byte_values}
use Rattle.sets.specs.Layout.{byte_sets, held}

pub record SetGrown (k : ℕ) (s : ByteSet) (m m' : List ℕ) : Type 0 where
  pub kept : TailKept byte_sets m m'
  pub bits : (q b : ℕ) → b < byte_values → held m' q b ≡ (held m q b || (eqb q k && s b))
