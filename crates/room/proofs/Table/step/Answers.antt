-- The cell for the class of the byte is the next state.
use borrow.Author.Rules.{rules}
use Rattle.scope.specs.Machines.Room.{next_of}
use Rattle.room.proofs.Table.step.Goals as goal

pub returns : goal.returns
unfolding next_of
returns c = search rules
