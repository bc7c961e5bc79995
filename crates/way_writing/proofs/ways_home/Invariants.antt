-- The ways sink until a sweep moves none; then they are level. Each other sweep lowers their sum.
use Rattle.scope.specs.Machines.Room.{states_of}
use Rattle.way_writing.specs.Sinking.{Sinking, total}
use Rattle.way_writing.proofs.ways_home.Given as goal

abbrev pub invariant-loop-list : goal.invariant-loop-list
invariant-loop-list l = Sinking l.room l.ways (states_of l.room)

abbrev pub decreases-loop-list : goal.decreases-loop-list
decreases-loop-list l = total l.ways
