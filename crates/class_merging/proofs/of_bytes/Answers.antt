-- Where each column has the class of its own number, the bytes keep theirs; else the table is read.
use mathlib.Core.Path.{◌∙◌}
use native.Mathlib.Omega.{arith}
use borrow.Author.Rules.{rules}
use Rattle.smallest_plan.proofs.FrontOrder.{front_order}
use Rattle.class_merging.proofs.Merged.{mapped_same}
use Rattle.class_merging.proofs.of_bytes.Goals as goal

pub returns-then-is_same_order : goal.returns-then-is_same_order
returns-then-is_same_order c =
    let h = c.head.ensures in
    let o = front_order c.args.sort.now c.head.result.classes (omega (arith, h.sound.few_classes, h.counts.1)) (c.is_same_order.ensures.yes c.if-is_same_order.true) in
    mapped_same c.args.sort.now _ h.sound (rw h.counts.1 at o) (search rules) (λ x i. c.copy.ensures.inside x i ∙ c.classes.ensures.1 x i)

pub returns-after-loop-byte : goal.returns-after-loop-byte
returns-after-loop-byte c = (c.loop-byte.invariant.0, λ x h. c.loop-byte.invariant.1 x (omega (arith, c.classes-column-items.ensures.0)))
