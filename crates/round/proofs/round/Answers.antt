use mathlib.Core.Path.{refl, sym, ap, ◌∙◌}
use Prim.Native.Nat.{◌≤◌, ◌<◌}
use native.Mathlib.Omega.{arith}
use Rattle.two_rooms.specs.Side.{both_limit, both}
use Rattle.round.proofs.Passes.{passed_stays, passed_joined, passed_opened}
use Rattle.signs.proofs.Signs.{stayed_still, stayed_moved, seen_past}
use Rattle.round.proofs.Gaps.{Come, come_as, come_gap}
use Rattle.round.proofs.round.Goals as goal
use Rattle.round.proofs.round.Goals.{In-Some, in-Some-walk, in-None, then-p-h, else-p-h}

-- the states up to the next that is looked at are passed over
come : (c : In-Some) → let a = c.args in let l = c.loop-q in
    Come (both a.moves.now.pair.now.left a.moves.now.pair.now.right).next a.part.now a.next.now l.next l.link a.lineage.now.parent l.lineage.parent a.lineage.now.born l.lineage.born a.from.now a.r l.opened l.stirred c.in-Some.q
come c =
    let d = c.args.moves.now.pair.now.first_states in
    let few : c.args.moves.now.pair.now.states ≤ both_limit = omega (arith, d.few, d.left.few_states, d.right.few_states) in
    let (l, h, k) = c.in-Some.ensures.found in
    come_gap few c.told-next c.requires.named c.requires.steady c.requires.next_is_part l (omega (arith, h)) c.in-Some.ensures.calm_between c.loop-q.invariant.come

pub walk-requires-clause-chain : goal.walk-requires-clause-chain
walk-requires-clause-chain c = (come (goal.at.walk-requires-clause-chain c).In-Some).passed.chain

pub loop-q-preserved : goal.loop-q-preserved
loop-q-preserved c =
    let a = c.args in
    let q = c.in-Some.q in
    let e = c.in-Some.ensures in
    let (l, h, k) = e.found in
    let d = a.moves.now.pair.now.first_states in
    let few : q < both_limit = omega (arith, d.few, d.left.few_states, d.right.few_states) in
    let v = come (goal.at.loop-q-preserved c).In-Some in
    let p = v.passed in
    let same = c.requires.next_is_part q h in
    record {
      high = omega arith;
      seen = seen_past e.seen_to k;
      come = elim c.match-walk.branch [
        | in-Some-walk w ↦
            let f = w.in-Some-walk.ensures in
            elim c.if-p-h.branch [
              | then-p-h u ↦
                  come_as w.link-is (u.next-is ∙ rw w.p-is refl) (ap (λ x. x.parent) w.lineage-is) (ap (λ x. x.born) w.lineage-is) w.opened-is u.stirred-is
                  (record {
                    passed = passed_joined _ _ _ _ _ _ _ _ _ _ _ _ few c.told-next p w.in-Some-walk.p f.1 (λ z. omega arith) (omega arith);
                    stayed = stayed_moved v.stayed w.in-Some-walk.p;
                  })
              | else-p-h u ↦
                  come_as w.link-is u.next-is (ap (λ x. x.parent) w.lineage-is) (ap (λ x. x.born) w.lineage-is) w.opened-is u.stirred-is
                  (record {
                    passed = passed_stays _ _ _ _ _ _ _ _ _ _ _ _ few c.told-next p same (rw (sym w.p-is ∙ u.if-p-h.false) at f.1);
                    stayed = stayed_still v.stayed (p.named.kept q (omega arith) ∙ same);
                  })
            ]
        | in-None w ↦
            let o = w.open.ensures in
            elim c.if-p-h.branch [
              | then-p-h u ↦
                  come_as (w.link-is ∙ o.links) (u.next-is ∙ rw w.p-is refl) (ap (λ x. x.parent) w.lineage-is ∙ o.parents) (ap (λ x. x.born) w.lineage-is ∙ o.births) w.opened-is u.stirred-is
                  (record {
                    passed = passed_opened _ _ _ _ _ _ _ _ _ _ _ _ few c.told-next p w.in-None.ensures k (c.requires.named q h).like a.lineage.now.long.0 a.lineage.now.long.1;
                    stayed = stayed_moved v.stayed q;
                  })
              | else-p-h u ↦ absurd (omega (arith, w.p-is, u.if-p-h.false))
            ]
      ];
    }

pub returns : goal.returns
returns c =
    let d = c.args.moves.now.pair.now.first_states in
    let few : c.args.moves.now.pair.now.states ≤ both_limit = omega (arith, d.few, d.left.few_states, d.right.few_states) in
    let v = come_gap few c.told-next c.requires.named c.requires.steady c.requires.next_is_part c.loop-q.invariant.high (omega arith) c.in_default.ensures.calm_between c.loop-q.invariant.come in
    record { renamed = v.passed.named; births = v.passed.births; stayed = v.stayed; decides = v.passed.some; link_cleared = v.passed.zero }
