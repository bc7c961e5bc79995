use Prim.Native.Nat.{ℕ, ◌+◌, ◌≤◌}
use mathlib.Core.Path.{◌≡◌, sym, ◌∙◌}
use mathlib.Core.Logic.{inl, inr}
use mathlib.Core.List.{List}
use native.Mathlib.Omega.{arith}
use lib.ListN.{get_or}
use Rattle.scope.specs.Operations.Buffers.{Written}
use Rattle.scope.proofs.Counting.Tests.{split}
use Rattle.scope.proofs.Counting.Lists.{zeros}
use Rattle.two_rooms.specs.Side.{both_limit, side}
use Rattle.two_rooms.proofs.ByKind.{each_kind}
use Rattle.signs.proofs.Signs.{steady_next}
use Rattle.refinement.proofs.RoundTurns.{after_none, after_copied, after_more, after_few, after_own, after_done}
use Rattle.refinement.proofs.refine.Goals as goal
use Rattle.refinement.proofs.refine.Goals.{At-loop-moves}

-- links that are 0 from n on are 0 when the others are made so
cleared : {n : ℕ} {link link' : List ℕ} → Written n (λ q. 0) link link' → ((x : ℕ) → n ≤ x → get_or link x 0 ≡ 0) → (x : ℕ) → get_or link' x 0 ≡ 0
cleared {n} w z x = elim (split x n) [ inl h ↦ w.inside x h | inr h ↦ w.outside x h ∙ z x h ]

-- so there are not more rounds than two rooms have states
few : (c : At-loop-moves) → c.loop-moves.r + 1 ≤ both_limit
few c = let d = c.new-moves.result.pair.now.first_states in
    omega (arith, after_few _ d.closed _ _ _ _ c.loop-moves.invariant.after, d.few, d.left.few_states, d.right.few_states)

pub new-moves-requires-clause-each_kind : goal.new-moves-requires-clause-each_kind
new-moves-requires-clause-each_kind c = let e = c.tried-least.ensures in rw e.part (each_kind c.requires.kinds _ e.long.0 e.long.2)

pub loop-moves-init : goal.loop-moves-init
loop-moves-init c =
    let z = c.requires.part_value in
    let b = c.begin-touched.ensures in
    let w = c.adopt.ensures in
    rw c.new-moves.ensures.0 (record {
      after = rw (z.1, z.2) (after_none _ _ b.named);
      steady = b.steady;
      next_is_part = rw c.new-moves.ensures.0 at w.part_written.inside;
      link_zero = cleared w.link_written (λ x h. zeros both_limit x);
    })

pub overflow_add-r : goal.overflow_add-r
overflow_add-r c = omega (arith, few (goal.at.overflow_add-r c).At-loop-moves)

pub overflow_cast-r : goal.overflow_cast-r
overflow_cast-r c = omega (arith, few (goal.at.overflow_cast-r c).At-loop-moves)

pub round-requires-clause-named : goal.round-requires-clause-named
round-requires-clause-named c = after_own _ c.new-moves.result.pair.now.first_states.closed _ _ _ _ c.loop-moves.invariant.after

pub overflow_add-r-in-loop-moves : goal.overflow_add-r-in-loop-moves
overflow_add-r-in-loop-moves c = omega (arith, few (goal.at.overflow_add-r-in-loop-moves c).At-loop-moves)

pub loop-moves-smaller : goal.loop-moves-smaller
loop-moves-smaller c =
    let d = c.new-moves.result.pair.now.first_states.closed in
    omega (arith, after_few _ d _ _ _ _ c.loop-moves.invariant.after, d.some)

pub loop-moves-preserved : goal.loop-moves-preserved
loop-moves-preserved c =
    let p = c.new-moves.result.pair.now in
    let d = p.first_states in
    let v = c.loop-moves.invariant in
    let e = c.round.ensures in
    let w = c.adopt-in-loop-moves.ensures in
    record {
      after = after_copied _ w.part_written.inside (after_more _ d.closed _ _ _ _ v.after _ _ _ e.renamed.named e.births (e.decides.yes c.loop-moves-test.true));
      steady = steady_next {M = side p.left p.right p.states} d.closed (rw c.new-moves.ensures.0 c.note_all.ensures.sources) e.renamed e.stayed w.part_written;
      next_is_part = λ q h. sym (w.part_written.inside q h);
      link_zero = cleared w.link_written e.link_cleared;
    }

pub returns-clause-refined : goal.returns-clause-refined
returns-clause-refined c =
    let e = c.round.ensures in
    rw c.new-moves.ensures.0 at (after_done _ c.new-moves.result.pair.now.first_states.closed _ _ _ _ c.loop-moves.invariant.after _ _ _ e.renamed.named e.births (e.decides.no c.loop-moves-test.false))
