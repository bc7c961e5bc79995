-- ROOM and FORM are judged in their order; what is left is a sound room.
use borrow.Author.Rules.{rules}
use Rattle.scope.specs.Operations.Match.{no_room, no_form}
use Rattle.matching.proofs.match_text.Goals as goal

pub returns-then-room-lt-ROOM : goal.returns-then-room-lt-ROOM
returns-then-room-lt-ROOM c = no_room c.if-room-lt-ROOM.true

pub returns-in_default : goal.returns-in_default
returns-in_default c = no_form (search rules) (c.of.ensures.none c.in_default.is)

pub returns : goal.returns
returns c = rw (← c.in-Some.ensures.some.0) c.match_sound.ensures
