-- x begins a part above that of q, with which q was together until the part was born, and after round r. Each parent is a smaller state.
use Rattle.spelling.proofs.Climbing.{Above}
use Rattle.spelling.proofs.Tree.climb.Given as goal

abbrev pub invariant-loop-x : goal.invariant-loop-x
invariant-loop-x l = Above l.self.part.now l.self.lineage.now.parent l.self.lineage.now.born l.q l.r l.x

abbrev pub decreases-loop-x : goal.decreases-loop-x
decreases-loop-x l = l.x
