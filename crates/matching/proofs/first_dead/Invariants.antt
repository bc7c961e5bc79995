-- The bytes up to the place lead to q, and every shorter prefix is completable.
use Prim.Native.Nat.{ℕ, ◌<◌}
use lib.ListN.{take}
use Rattle.scope.specs.Machines.Machine.{Completable}
use Rattle.scope.specs.Machines.Room.{machine}
use Rattle.matching.proofs.Completable.{LedTo}
use Rattle.matching.proofs.first_dead.Given as goal

abbrev pub invariant-loop-place : goal.invariant-loop-place
invariant-loop-place l = LedTo (machine l.room) l.text l.place l.q × ((j : ℕ) → j < l.place → Completable (machine l.room) (take j l.text))
