-- The invariant: the ends so far are those of the runs by the first p positions.
use Prim.Native.Nat.{ℕ, ◌<◌, ◌^◌}
use lib.ListN.{get_or}
use Rattle.byte_runs.specs.Runs.{RunsOf, Like}
use Rattle.byte_runs.proofs.find.Given as goal

abbrev pub invariant-loop-p : goal.invariant-loop-p
invariant-loop-p l = RunsOf (Like l.sets.bytes.now l.p) l.words × ((w : ℕ) → get_or l.words w 0 < 2 ^ 64)
