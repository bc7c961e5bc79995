use native.Mathlib.Omega.{arith}
use borrow.Author.Rules.{rules}
use Rattle.ways.proofs.HeldClasses.{blocks_more, blocks_here, blocks_all}
use Rattle.ways.proofs.find.Goals as goal

pub loop-tried-init : goal.loop-tried-init
loop-tried-init c = λ s h o. omega (arith, h)

pub returns-then-is_among : goal.returns-then-is_among
returns-then-is_among c = blocks_here c.args.from c.loop-tried.tried (c.is_among.ensures.yes c.if-is_among.true)

pub loop-tried-preserved : goal.loop-tried-preserved
loop-tried-preserved c = blocks_more c.args.from c.loop-tried.tried c.loop-tried.invariant (c.is_among.ensures.no c.if-is_among.false)

pub returns : goal.returns
returns c = blocks_all c.args.from c.loop-tried.tried c.loop-tried.invariant (search rules)
