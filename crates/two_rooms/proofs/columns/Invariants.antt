-- The classes so far are stored in the first j columns.
use lib.ListN.{get_or, replicate}
use Rattle.scope.specs.Limits.{byte_values}
use Rattle.scope.specs.Machines.Room.{class_of}
use Rattle.buffers.specs.Stored.{Stored}
use Rattle.two_rooms.proofs.columns.Given as goal

abbrev pub invariant-loop-j : goal.invariant-loop-j
invariant-loop-j l = Stored (replicate byte_values 0) l.column 0 l.j (λ i. class_of l.room (get_or l.least i 0))
