-- The class of the byte is below the number of classes, and the cell for it, counted from the first cell, is the next state.
use borrow.Author.Rules.{rules}
use Rattle.matching.proofs.Completable.{Stepped, stepped}
use Rattle.matching.proofs.step.Goals as goal
use Rattle.matching.proofs.step.Goals.{After-class}

-- the cell of the step
known : (c : After-class) → Stepped c.args.room.now c.args.cells.now c.head.result.classes c.args.q c.args.b
known c = let r = c.requires in stepped c.head.ensures.sound r.1 c.head.ensures.counts.1 c.args.q c.args.b r.0 (search rules)

pub bounds-cells-q : goal.bounds-cells-q
bounds-cells-q c = rw c.class.ensures.0 (known (goal.at.bounds-cells-q c).After-class).within

pub returns : goal.returns
returns c = let k = known (goal.at.returns c).After-class in rw c.class.ensures.0 (k.cell, k.state)
