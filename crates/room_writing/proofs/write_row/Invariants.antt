-- The cells before the class c are stored.
use Prim.Native.Nat.{ℕ, ◌<◌}
use mathlib.Core.Path.{◌≡◌}
use lib.ListN.{get_or}
use Rattle.smallest_plan.specs.Smallest.{led}
use Rattle.room_writing.proofs.write_row.Given as goal

abbrev pub invariant-loop-c : goal.invariant-loop-c
invariant-loop-c l = (i : ℕ) → i < l.c → get_or l.cells i 0 ≡ led l.rows.room l.rows.states.now l.fn.q (get_or l.leaders i 0)
