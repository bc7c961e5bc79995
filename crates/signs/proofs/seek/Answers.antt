use native.Mathlib.Omega.{arith}
use Rattle.signs.proofs.Signs.{gap_zeros, gap_none}
use Rattle.signs.proofs.seek.Goals as goal

pub returns-then-y-n : goal.returns-then-y-n
returns-then-y-n c =
    let l = c.loop-x in
    (omega (arith, l.invariant.0), omega arith, gap_zeros c.args.s c.args.q l.x l.invariant.1 c.ranges.s.fits (omega (arith, c.if-rest-ne0.true)))

pub returns-then-rest-ne0 : goal.returns-then-rest-ne0
returns-then-rest-ne0 c =
    let l = c.loop-x in
    let gap = gap_zeros c.args.s c.args.q l.x l.invariant.1 c.ranges.s.fits (omega (arith, c.if-rest-ne0.true)) in
    λ z h k. gap z (omega (arith, c.if-y-n.false)) k

pub loop-x-preserved : goal.loop-x-preserved
loop-x-preserved c = let l = c.loop-x in (omega (arith, l.invariant.0), gap_none c.args.s c.args.q l.x l.invariant.1 c.if-rest-ne0.false)
