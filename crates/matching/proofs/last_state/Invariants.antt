-- The bytes so far lead to q.
use Rattle.scope.specs.Machines.Room.{machine}
use Rattle.matching.proofs.Completable.{LedTo}
use Rattle.matching.proofs.last_state.Given as goal

abbrev pub invariant-loop-b : goal.invariant-loop-b
invariant-loop-b l = LedTo (machine l.room) l.text l.b-index l.q
