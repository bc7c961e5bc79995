use Prim.Native.Nat.{◌<◌}
use native.Mathlib.Omega.{arith}
use Rattle.scope.specs.Limits.{state_limit}
use Rattle.arrivals.proofs.Swept.{none_of, some_of, swept_few, row_cell, row_lead, row_end, row_old, row_new, row_fewer}
use Rattle.arrivals.proofs.sweep.Goals as goal
use Rattle.arrivals.proofs.sweep.Goals.{Then-is_none, then-is_none, else-is_none}

-- a part has no number yet, so another number is left
fewer : (c : Then-is_none) → c.loop-column.count < state_limit
fewer c =
    let d = c.requires.sweepable in
    let r = c.loop-column.invariant in
    let l = c.loop-column-test.true in
    row_fewer d r l (row_cell d r _ c.row-row.ensures.1 l) (none_of _ c.is_none.ensures c.if-is_none.true)

pub bounds-states-q : goal.bounds-states-q
bounds-states-q c = let d = c.requires in omega (arith, swept_few d.sweepable.sound d.swept.1, d.sweepable.sound.few_states)

pub bounds-states-count : goal.bounds-states-count
bounds-states-count c = fewer (goal.at.bounds-states-count c).Then-is_none

pub overflow_cast-number : goal.overflow_cast-number
overflow_cast-number c = omega (arith, fewer (goal.at.overflow_cast-number c).Then-is_none)

pub bounds-number-t-then-is_none : goal.bounds-number-t-then-is_none
bounds-number-t-then-is_none c =
    let d = c.requires.sweepable in
    let r = c.loop-column.invariant in
    let l = c.loop-column-test.true in
    row_lead d r l (row_cell d r _ c.row-row.ensures.1 l)

pub overflow_add-count : goal.overflow_add-count
overflow_add-count c = omega (arith, fewer (goal.at.overflow_add-count c).Then-is_none)

pub loop-column-preserved : goal.loop-column-preserved
loop-column-preserved c =
    let d = c.requires.sweepable in
    let r = c.loop-column.invariant in
    let l = c.loop-column-test.true in
    let p = row_cell d r _ c.row-row.ensures.1 l in
    elim c.if-is_none.branch [
      | then-is_none w ↦ rw (w.states-is, w.number-is, w.count-is) (row_new d r l p (none_of _ c.is_none.ensures w.if-is_none.true))
      | else-is_none w ↦ (let v = some_of _ c.is_none.ensures w.if-is_none.false in rw (w.states-is, w.number-is, w.count-is) (row_old d r l p v.0 v.1))
    ]

pub returns : goal.returns
returns c = let r = c.loop-column.invariant in (r.in_rows, row_end c.requires.sweepable r (omega arith))
