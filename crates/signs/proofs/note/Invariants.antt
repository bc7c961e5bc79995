-- The cells of the classes below c are noted.
use Rattle.signs.proofs.Noting.{Noting}
use Rattle.signs.proofs.note.Given as goal

abbrev pub invariant-loop-c : goal.invariant-loop-c
invariant-loop-c l = Noting l.room l.base l.q l.s l.fn.from l.from l.last l.c
