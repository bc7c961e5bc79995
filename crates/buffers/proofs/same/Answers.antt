use mathlib.Core.Path.{◌≡◌}
use native.Mathlib.Omega.{arith}
use Rattle.buffers.proofs.OneMore.{holds, alike_more, alike_not}
use Rattle.buffers.proofs.same.Goals as goal
use Rattle.buffers.proofs.same.Goals.{else-a-i, then-a-i}

pub loop-i-init : goal.loop-i-init
loop-i-init c = holds (λ i h. absurd (omega arith))

pub loop-i-preserved : goal.loop-i-preserved
loop-i-preserved c =
    let a = c.args.a.now in
    let b = c.args.b.now in
    elim c.if-a-i.branch [
      | then-a-i w ↦ rw w.alike-is (alike_not a b _ w.if-a-i.true)
      | else-a-i w ↦ rw w.alike-is (alike_more a b _ w.if-a-i.false c.loop-i.invariant)
    ]

pub returns : goal.returns
returns c = let e : c.loop-i.i ≡ c.args.n = omega arith in rw e at c.loop-i.invariant
