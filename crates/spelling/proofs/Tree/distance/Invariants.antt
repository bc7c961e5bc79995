-- Before round low the two states are together, and after round high they are not; low and high come nearer to each other.
use Prim.Native.Nat.{◌-◌, ◌≤◌}
use Rattle.spelling.specs.Word.{Between}
use Rattle.spelling.proofs.Tree.distance.Given as goal

abbrev pub invariant-loop-low : goal.invariant-loop-low
invariant-loop-low l = (l.low ≤ l.high) × Between l.self.part.now l.self.lineage.now.parent l.self.lineage.now.born l.p l.q l.rounds l.low l.high

abbrev pub decreases-loop-low : goal.decreases-loop-low
decreases-loop-low l = l.high - l.low
