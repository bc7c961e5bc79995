-- The invariant: of the bytes low to high those from the byte of the set on are left to put in.
use Prim.Native.Nat.{◌*◌, max}
use mathlib.Core.Path.{◌≡◌}
use lib.ListN.{length}
use Rattle.scope.specs.Bytes.{between}
use Rattle.leaves.proofs.GrownSets.{Left}
use Rattle.leaves.proofs.byte_set.insert.Given as goal

abbrev pub invariant-loop-i : goal.invariant-loop-i
invariant-loop-i l =
    (length l.bytes ≡ length l.initial.bytes) × Left l.k (between l.low l.high) (between (max l.low (8 * l.i)) l.high) l.initial.bytes l.bytes
