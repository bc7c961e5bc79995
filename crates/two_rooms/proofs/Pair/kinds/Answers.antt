use Prim.Native.Nat.{◌+◌, ◌≤◌}
use mathlib.Core.Path.{sym}
use native.Mathlib.Omega.{arith}
use borrow.Author.Rules.{rules}
use lib.ListN.{length}
use lib.Seq.{length-take-le}
use Rattle.scope.specs.Limits.{byte_values}
use Rattle.two_rooms.specs.Kinds.{stretch}
use Rattle.two_rooms.proofs.ByKind.{passed_first, passed_same, passed_level, passed_old, passed_new, passed_full, passed_all, passed_few, known_some, known_none}
use Rattle.two_rooms.proofs.Pair.kinds.Goals as goal
use Rattle.two_rooms.proofs.Pair.kinds.Goals.{In-loop-x, then-p-last+then-not-is_known, then-p-last+else-not-is_known, else-p-last}

-- the kinds so far have a place
few : (c : In-loop-x) → c.loop-x.count ≤ length c.loop-x.least
few c = let g = c.loop-x.invariant.2 in omega (arith, passed_few g, g.least_long)

pub loop-x-init : goal.loop-x-init
loop-x-init c = (search rules, search rules, passed_first _ _ _ c.classes-last.ensures)

pub loop-x-preserved-then-is_level-2 : goal.loop-x-preserved-then-is_level-2
loop-x-preserved-then-is_level-2 c = let h : c.loop-x.x + stretch ≤ byte_values = omega arith in
    (omega arith, h, passed_level _ _ _ _ h c.loop-x.invariant.2 (c.is_level.ensures.yes c.if-is_level.true) (c.is_level-then-is_level.ensures.yes c.if-is_level-2.true))

pub slice_bounds-least-end : goal.slice_bounds-least-end
slice_bounds-least-end c = few (goal.at.slice_bounds-least-end c).In-loop-x

pub slice_bounds-is_known-end : goal.slice_bounds-is_known-end
slice_bounds-is_known-end c = sym (length-take-le _ _ (few (goal.at.slice_bounds-is_known-end c).In-loop-x))

pub bounds-least-count : goal.bounds-least-count
bounds-least-count c = omega (arith, passed_few c.loop-x.invariant.2)

pub loop-x-preserved : goal.loop-x-preserved
loop-x-preserved c =
    let l = c.loop-x-test.true in
    let g = c.loop-x.invariant.2 in
    let e = c.classes-p.ensures in
    let h = few (goal.at.loop-x-preserved c).In-loop-x in (
      search rules,
      search rules,
      elim c.if-p-last.branch [
        | then-p-last+then-not-is_known w ↦ rw (w.least-is, w.count-is, w.last-is) (passed_new _ _ _ _ _ _ _ l g e (known_none _ _ h (w.is_known.ensures.no w.if-not-is_known.true)))
        | then-p-last+else-not-is_known w ↦
            let (i, k, p) = known_some _ _ h (w.is_known.ensures.yes w.if-not-is_known.false) in
            rw (w.least-is, w.count-is, w.last-is) (passed_old _ _ _ _ _ _ _ l g e i k p)
        | else-p-last w ↦ rw (w.least-is, w.count-is, w.last-is) (passed_same _ _ _ _ _ _ _ l g e w.if-p-last.false)
      ],
    )

pub returns-else-count-most : goal.returns-else-count-most
returns-else-count-most c = passed_full _ _ _ c.args.self.now.first_states.right c.requires _ _ c.if-count-most.false c.loop-x.invariant.1 c.loop-x.invariant.2

pub returns-after-loop-x : goal.returns-after-loop-x
returns-after-loop-x c = passed_all c.loop-x.invariant.2 c.args.self.now.first_states.right (omega arith)
