-- The states below `at` have their new parts, the chains of those that begin one, the births of those that open one, and the signs of those that lead to one that moved.
use Prim.Native.Nat.{◌-◌, ◌≤◌}
use Rattle.two_rooms.specs.Side.{both}
use Rattle.signs.specs.Signs.{Seen}
use Rattle.round.proofs.Gaps.{Come}
use Rattle.round.proofs.round.Given as goal

abbrev pub invariant-loop-q : goal.invariant-loop-q
invariant-loop-q l = record {
  high : l.at ≤ l.n;
  seen : Seen l.part l.touched l.seen l.at;
  come : Come (both l.moves.pair.now.left l.moves.pair.now.right).next l.part l.initial.next l.next l.link l.initial.lineage.parent l.lineage.parent l.initial.lineage.born l.lineage.born l.from l.r l.opened l.stirred l.at;
}

abbrev pub decreases-loop-q : goal.decreases-loop-q
decreases-loop-q l = l.n - l.at
