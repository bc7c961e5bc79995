use mathlib.Core.Path.{◌≡◌}
use borrow.Author.Rules.{rules}
use Rattle.ways.proofs.LeastOver.{least_none, least_more}
use Rattle.way_writing.proofs.least.Goals as goal

pub loop-i-init : goal.loop-i-init
loop-i-init c = least_none _ _ _ _

pub cell-requires : goal.cell-requires
cell-requires c = (c.requires.q_bound, c.requires.held_classes.below c.loop-i.i c.loop-i-test.true (search rules))

pub loop-i-preserved : goal.loop-i-preserved
loop-i-preserved c = rw (c.min-way.ensures, c.cell.ensures.0) (least_more c.loop-i.invariant)

pub returns : goal.returns
returns c = let e : c.loop-i.i ≡ c.args.count = search rules in rw e at c.loop-i.invariant
