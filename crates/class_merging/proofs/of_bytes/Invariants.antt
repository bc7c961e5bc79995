-- The bytes so far have the classes of their columns.
use Prim.Native.Nat.{ℕ, ◌<◌}
use mathlib.Core.Path.{◌≡◌}
use lib.ListN.{length, get_or}
use Rattle.scope.specs.Limits.{byte_values}
use Rattle.scope.specs.Machines.Room.{class_of}
use Rattle.class_merging.proofs.of_bytes.Given as goal

abbrev pub invariant-loop-byte : goal.invariant-loop-byte
invariant-loop-byte l = (length l.class ≡ byte_values) × ((x : ℕ) → x < l.byte → get_or l.class x 0 ≡ get_or l.sort (class_of l.room x) 0)
