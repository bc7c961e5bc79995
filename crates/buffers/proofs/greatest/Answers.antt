use native.Mathlib.Omega.{arith}
use borrow.Author.Rules.{rules}
use Rattle.buffers.proofs.OneMore.{most_new, most_old}
use Rattle.buffers.proofs.greatest.Goals as goal
use Rattle.buffers.proofs.greatest.Goals.{else-x-top, then-x-top}

pub loop-i-init : goal.loop-i-init
loop-i-init c = ((λ i h k. absurd (omega arith)), λ l h. search rules)

pub loop-i-preserved : goal.loop-i-preserved
loop-i-preserved c =
    let v = c.loop-i.invariant in
    let m = c.args.m.now in
    elim c.if-x-top.branch [
      | then-x-top w ↦ rw w.top-is (most_new m _ _ _ w.if-x-top.true v.0, λ l f. f _ (search rules) (search rules))
      | else-x-top w ↦ rw w.top-is (most_old m _ _ _ w.if-x-top.false v.0, v.1)
    ]

pub returns : goal.returns
returns c = record { above = λ i h k. c.loop-i.invariant.0 i (omega arith) k; least = c.loop-i.invariant.1 }
