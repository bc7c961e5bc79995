-- The marks of the rows before q are stored.
use Prim.Native.Nat.{ℕ, ◌<◌}
use mathlib.Core.Path.{◌≡◌}
use lib.ListN.{get_or}
use Rattle.scope.specs.Machines.Room.{mark_of}
use Rattle.room_writing.proofs.write_marks.Given as goal

abbrev pub invariant-loop-q : goal.invariant-loop-q
invariant-loop-q l = (i : ℕ) → i < l.q → get_or l.marks i 0 ≡ mark_of l.rows.room (get_or l.rows.states.now.order i 0)
