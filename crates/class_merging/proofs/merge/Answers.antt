-- Leaders are columns of the room, so there are no more of them than the room has classes.
use Prim.Native.Nat.{◌+◌, ◌≤◌, ◌<◌}
use native.Mathlib.Omega.{arith}
use lib.ListN.{get_or}
use Rattle.std.proofs.lemmas.List.{length-take, get_or-take}
use Rattle.scope.specs.Limits.{byte_values, class_limit}
use Rattle.scope.specs.Machines.Room.{classes_of}
use Rattle.class_merging.specs.Merged.{Distinct}
use Rattle.class_merging.proofs.Chains.{all_front}
use Rattle.class_merging.proofs.Merged.{merged_inside, merged_few, merged_old, merged_new}
use Rattle.class_merging.proofs.merge.Goals as goal
use Rattle.class_merging.proofs.merge.Goals.{In-loop-u, in-Some, in_default}

few : (c : In-loop-u) → c.loop-u.count ≤ class_limit
few c = omega (arith, merged_few c.loop-u.invariant (omega arith) c.requires.distinct.1, c.requires.states_in.sound.few_classes)

pub shared_ref_as_front-find : goal.shared_ref_as_front-find
shared_ref_as_front-find c = omega (arith, few (goal.at.shared_ref_as_front-find c).In-loop-u)

pub find-requires-clause-columns : goal.find-requires-clause-columns
find-requires-clause-columns c =
    let v = c.loop-u.invariant in
    rw (c.new-rows.ensures.0) (all_front (λ u. u < classes_of c.args.room.now) _ _ (omega (arith, few (goal.at.find-requires-clause-columns c).In-loop-u, v.leader_size))
    (λ k h. merged_inside v (omega arith) c.requires.distinct.1 k h (omega arith)))

pub overflow_cast-sort-in_default : goal.overflow_cast-sort-in_default
overflow_cast-sort-in_default c = omega (arith, few (goal.at.overflow_cast-sort-in_default c).In-loop-u)

pub bounds-classes-count : goal.bounds-classes-count
bounds-classes-count c = omega (arith, few (goal.at.bounds-classes-count c).In-loop-u)

pub loop-u-preserved : goal.loop-u-preserved
loop-u-preserved c =
    let v = c.loop-u.invariant in
    let l = c.loop-u-test.true in
    let n = c.loop-u.count in
    let leader = c.loop-u.classes.leader in
    let few : n ≤ class_limit = few (goal.at.loop-u-preserved c).In-loop-u in
    let d : Distinct c.args.columns.now (c.loop-u.u-index + 1) = λ i j g. c.requires.distinct.2 i j (omega arith) in
    let u : get_or c.args.columns.now c.loop-u.u-index 0 < byte_values = omega (arith, c.requires.distinct.1 c.loop-u.u-index l (omega arith), c.requires.states_in.sound.few_classes) in
    elim c.match-find.branch [
      | in-Some w ↦ (let f = rw (c.new-rows.ensures.0, c.new-rows.ensures.1) at (w.in-Some.ensures) in
          let h : w.in-Some.c < n = omega (arith, f.0, length-take n leader) in
          rw (w.sort-is, w.classes-is, w.count-is) (merged_old u d v w.in-Some.c h (rw (get_or-take n leader w.in-Some.c 0 h) at (f.1))))
      | in_default w ↦ (let f = rw (c.new-rows.ensures.0, c.new-rows.ensures.1) at (w.in_default.ensures) in
          rw (w.sort-is, w.classes-is, w.count-is) (merged_new u d v (omega arith)
          (λ i h g. f i (omega (arith, length-take n leader, v.leader_size)) (rw (get_or-take n leader i 0 h) g))))
    ]
