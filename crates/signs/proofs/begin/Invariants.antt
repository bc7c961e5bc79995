-- The states below q are named by mark: other is the first whose mark is not that of the state 0. The signs of those that lead to one with that other mark are touched.
use lib.ListN.{replicate}
use Rattle.two_rooms.specs.Side.{both_limit}
use Rattle.signs.specs.Signs.{Stayed}
use Rattle.signs.proofs.Marks.{MarksNamed}
use Rattle.signs.proofs.begin.Given as goal

abbrev pub invariant-loop-q : goal.invariant-loop-q
invariant-loop-q l = record {
  named : MarksNamed l.pair.left l.pair.right l.part l.other l.q;
  stayed : Stayed (replicate both_limit 0) l.part l.from l.q l.touched;
}
