use mathlib.Core.Path.{◌≡◌, sym, ◌∙◌}
use Prim.Native.Nat.{◌+◌, ◌<◌}
use native.Mathlib.Omega.{arith}
use Rattle.scope.proofs.Counting.Lists.{zeros}
use Rattle.scope.specs.Machines.Room.{states_of}
use Rattle.two_rooms.specs.Side.{both_limit, side}
use Rattle.signs.proofs.Marks.{begun_none, begun_same, begun_other, begun_all}
use Rattle.signs.proofs.Signs.{steady_first, stayed_none, stayed_still, stayed_moved}
use Rattle.signs.proofs.begin.Goals as goal
use Rattle.signs.proofs.begin.Goals.{else-mark-m, then-mark-m}

pub loop-q-init : goal.loop-q-init
loop-q-init c = rw c.requires.part_value (record { named = begun_none _ _; stayed = stayed_none _ _ _ })

pub loop-q-preserved : goal.loop-q-preserved
loop-q-preserved c =
    let d = c.args.pair.now.first_states in
    let l = c.loop-q in
    let m = c.mark-m.ensures in
    let k = c.mark.ensures in
    let v = l.invariant.named in
    let few : l.q < states_of c.args.pair.now.left + states_of c.args.pair.now.right = omega (arith, d.few) in
    let h : l.q < both_limit = omega (arith, few, d.left.few_states, d.right.few_states) in
    record {
      named = elim c.if-mark-m.branch [
        | then-mark-m w ↦ rw (w.part-is, w.other-is, w.unwrap_or-first.ensures) (begun_other _ _ _ _ _ v d.left d.right few h (λ e. w.if-mark-m.true (k ∙ e ∙ sym m)))
        | else-mark-m w ↦ rw (w.part-is, w.other-is) (begun_same _ _ _ _ _ v (sym k ∙ w.if-mark-m.false ∙ m))
      ];
      stayed = elim c.if-mark-m.branch [
        | then-mark-m w ↦ rw (w.part-is, w.touched-is) (stayed_moved l.invariant.stayed _)
        | else-mark-m w ↦ rw (w.part-is, w.touched-is) (stayed_still l.invariant.stayed (v.zero l.q (omega arith) ∙ sym (zeros both_limit l.q)))
      ];
    }

pub returns : goal.returns
returns c =
    let p = c.args.pair.now in
    let i = c.loop-q.invariant in
    let e : c.loop-q.q ≡ p.states = omega arith in
    let d = p.first_states in
    record {
      named = begun_all _ _ _ _ _ d (rw e at i.named);
      steady = steady_first {M = side p.left p.right p.states} d.closed c.requires.sources (zeros both_limit) (rw e at i.stayed);
    }
