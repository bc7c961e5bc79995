use Prim.Native.Nat.{◌+◌, ◌<◌}
use mathlib.Core.Path.{◌∙◌, ap}
use native.Mathlib.Omega.{arith}
use Rattle.std.proofs.lemmas.List.{length-take, get_or-take}
use Rattle.smallest_plan.specs.Smallest.{led}
use Rattle.room_writing.specs.PlanImage.{table_cell}
use Rattle.room_writing.proofs.PlanTable.{stored_as, cells_fit, cells_more}
use Rattle.room_writing.proofs.write_cells.Goals as goal

pub loop-q-preserved : goal.loop-q-preserved
loop-q-preserved c =
    let l = c.loop-q in
    let h = c.loop-q-test.true in
    let a = c.args.rows.now.room in
    let s = c.args.rows.now.states.now in
    let t = c.args.classes.now in
    let fits = cells_fit l.invariant h c.args.rows.now.in_room.few c.requires.few in
    cells_more l.invariant h (stored_as (table_cell a s t l.q) l.at (l.at + t.count) l.to c.write_row.new.cells (omega arith) (omega (arith, fits)) (omega arith)
    (λ i z. let k : i < t.count = omega arith in
    c.write_row.ensures i (omega (arith, length-take t.count t.leader)) ∙ ap (led a s l.q) (get_or-take t.count t.leader i 0 k)))
