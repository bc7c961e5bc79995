-- part and lineage are those after r rounds, none of which rested; there are at most n - 2 such rounds. The links are 0.
use Prim.Native.Nat.{ℕ, ◌-◌, ◌<◌}
use mathlib.Core.Path.{◌≡◌}
use lib.ListN.{get_or}
use Rattle.two_rooms.specs.Side.{both, side}
use Rattle.signs.specs.Signs.{Steady}
use Rattle.refinement.proofs.RoundTurns.{After}
use Rattle.refinement.proofs.refine.Given as goal

abbrev pub invariant-loop-moves : goal.invariant-loop-moves
invariant-loop-moves l = record {
  after : After (side l.moves.pair.now.left l.moves.pair.now.right l.moves.pair.now.states) l.part l.lineage.parent l.lineage.born l.r;
  steady : Steady (both l.moves.pair.now.left l.moves.pair.now.right).next l.part l.moves.pair.now.states l.touched;
  next_is_part : (q : ℕ) → q < l.moves.pair.now.states → get_or l.next q 0 ≡ get_or l.part q 0;
  link_zero : (x : ℕ) → get_or l.link x 0 ≡ 0;
}

abbrev pub decreases-loop-moves : goal.decreases-loop-moves
decreases-loop-moves l = l.moves.pair.now.states - l.r
