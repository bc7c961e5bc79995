use mathlib.Core.Logic.{inr}
use native.Mathlib.Omega.{arith}
use lib.ListN.{get_or}
use Rattle.two_rooms.specs.Side.{both}
use Rattle.parting.specs.Named.{Agree}
use Rattle.parting.proofs.Links.{ChainTried, facing_more, place_none}
use Rattle.parting.proofs.Moves.walk.Goals as goal
use Rattle.parting.proofs.Moves.walk.Goals.{In-loop-p}

-- p does not agree with q: the next of the chain
more : (c : In-loop-p) →
    let s = c.args in
    let h = get_or s.part.now s.q 0 in
    let R = Agree (both s.self.now.pair.now.left s.self.now.pair.now.right).next s.part.now in
    ChainTried R s.part.now h s.q (get_or s.link.now c.loop-p.p 0) × (R h s.q → ⊥)
more c =
    let r = c.requires in
    facing_more _ _ _ r.q_bound.1 _ r.chain r.q_bound.2 _ c.loop-p.invariant (c.agree.ensures.no c.loop-p-test.true)

pub returns-then-p-eq0 : goal.returns-then-p-eq0
returns-then-p-eq0 c =
    let r = c.requires in
    let (t, n) = more (goal.at.returns-then-p-eq0 c).In-loop-p in
    place_none _ _ _ r.q_bound.1 _ r.chain _ t (omega (arith, c.if-p-eq0.true)) n

pub loop-p-preserved : goal.loop-p-preserved
loop-p-preserved c = let (t, n) = more (goal.at.loop-p-preserved c).In-loop-p in inr (omega (arith, c.if-p-eq0.false), t, n)
