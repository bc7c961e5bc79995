-- A state of the left room has its mark there, one of the right room there.
use mathlib.Core.Path.{sym, ◌∙◌}
use native.Mathlib.Omega.{arith}
use Rattle.two_rooms.proofs.Rooms.{mark_left, mark_right}
use Rattle.two_rooms.proofs.Pair.mark.Goals as goal

pub returns-then-q-s : goal.returns-then-q-s
returns-then-q-s c = c.mark.ensures.0 ∙ sym (mark_left _ _ _ (omega arith))

pub returns-else-q-s : goal.returns-else-q-s
returns-else-q-s c = let e = c.head-s.ensures.counts.0 in rw (c.mark-else-q-s.ensures.0, e) (sym (mark_right _ _ _ (omega arith)))
