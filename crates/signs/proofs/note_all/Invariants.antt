-- The states below q are noted.
use Rattle.scope.specs.Operations.Buffers.{TailKept}
use Rattle.two_rooms.specs.Side.{both_limit, both}
use Rattle.parting.specs.CellRows.{CellRows}
use Rattle.signs.specs.Signs.{Sources}
use Rattle.signs.proofs.note_all.Given as goal

abbrev pub invariant-loop-q : goal.invariant-loop-q
invariant-loop-q l = record {
  rows : CellRows (both l.pair.left l.pair.right).next l.least l.rows l.q;
  kept : TailKept both_limit l.initial.rows l.rows;
  sources : Sources (both l.pair.left l.pair.right).next l.q l.from;
}
