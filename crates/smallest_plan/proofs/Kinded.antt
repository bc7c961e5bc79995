-- The kinds of a room's bytes, for whoever goes over them in the place of the bytes: all bytes of a kind have one class in the room, its column, and kinds stand in the
-- order of their least bytes.
--   Kinded a kind least column: kind has the kind of each byte, least the least byte of each kind and column its column
use Prim.Native.Nat.{ℕ, ◌<◌}
use mathlib.Core.Path.{◌≡◌}
use mathlib.Core.List.{List}
use lib.ListN.{length, get_or}
use Rattle.scope.specs.Limits.{byte_values}
use Rattle.scope.specs.Machines.Room.{class_of}
use Rattle.smallest_plan.proofs.Finer.{Finer}

pub record Kinded (a kind least column : List ℕ) : Type 0 where
  pub finer : Finer (λ x. get_or kind x 0) (λ j. get_or least j 0) (length column) byte_values
  pub class : (x : ℕ) → x < byte_values → get_or column (get_or kind x 0) 0 ≡ class_of a x
