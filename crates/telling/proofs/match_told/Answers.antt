-- Of a text that is not dead nothing is told; a dead one died at the answer's place, in a sound room.
use Rattle.scope.specs.Machines.Room.{machine, Sound}
use Rattle.scope.specs.Operations.Match.{DeadAt}
use Rattle.matching.proofs.Completable.{died}
use Rattle.telling.specs.Expected.{marked}
use Rattle.telling.proofs.match_told.Goals as goal
use Rattle.telling.proofs.match_told.Goals.{In-Ok-Dead}

dead : (c : In-Ok-Dead) → Sound c.args.room.now × DeadAt (machine c.args.room.now) c.args.text.now c.in-Ok-Dead.place
dead c = died (rw (c.in-Ok-Dead.is, rw c.in-Ok-Dead.is at c.in-Ok-Dead.field-0-is) at c.match_text-matched.ensures)

pub new-requires : goal.new-requires
new-requires c = (dead (goal.at.new-requires c).In-Ok-Dead).0

pub tell-requires : goal.tell-requires
tell-requires c = rw c.new.ensures (dead (goal.at.tell-requires c).In-Ok-Dead).1

pub returns-in-Ok-Dead : goal.returns-in-Ok-Dead
returns-in-Ok-Dead c =
    let told = rw c.new.ensures at c.tell.ensures in
    (c.match_text-matched.ensures, rw (c.in-Ok-Dead.is, rw c.in-Ok-Dead.is at c.in-Ok-Dead.field-0-is) (marked told))
