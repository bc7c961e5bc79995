use Prim.Native.Nat.{◌+◌, ◌*◌, ◌-◌, ◌^◌, ◌≤◌, ◌<◌}
use mathlib.Core.Path.{◌≡◌}
use native.Mathlib.Omega.{arith}
use Rattle.two_rooms.specs.Side.{both_limit}
use Rattle.parting.specs.CellRows.{row_width, cell_values, none, more}
use Rattle.parting.proofs.Cells.{cell_fits}
use Rattle.parting.proofs.write_row.Goals as goal
use Rattle.parting.proofs.write_row.Goals.{In-loop-i, After-step}

-- the row has room for the cell
fits : (c : In-loop-i) → (c.loop-i.row + 1) * cell_values ≤ cell_values ^ row_width
fits c = cell_fits c.loop-i.invariant c.loop-i-test.true

-- the cell is a state
state : (c : After-step) → c.step.result < both_limit
state c = let d = c.args.pair.now.first_states in omega (arith, c.step.ensures.1, d.left.few_states, d.right.few_states)

pub loop-i-init : goal.loop-i-init
loop-i-init c = none

pub overflow_mul-row : goal.overflow_mul-row
overflow_mul-row c = omega (arith, fits (goal.at.overflow_mul-row c).In-loop-i)

pub overflow_add-row : goal.overflow_add-row
overflow_add-row c = let a = goal.at.overflow_add-row c in omega (arith, fits a.In-loop-i, state a.After-step)

pub loop-i-preserved : goal.loop-i-preserved
loop-i-preserved c =
    let l = c.loop-i in
    let e : l.i ≡ l.i - 1 + 1 = omega (arith, c.loop-i-test.true) in
    let z = c.step.ensures.0 in
    rw z (more (rw z at (state (goal.at.loop-i-preserved c).After-step)) (rw e at l.invariant))
