-- The parts of the image are stored one after the other; no part changes another.
use Prim.Native.Nat.{ℕ, ◌+◌}
use native.Mathlib.Omega.{arith}
use borrow.Author.Rules.{rules}
use lib.ListN.{get_or}
use Rattle.scope.specs.Limits.{marks_at}
use Rattle.scope.specs.Machines.Room.{mark_of}
use Rattle.room_writing.proofs.PlanImage.{states_few, table_few, image_parts}
use Rattle.room_writing.proofs.PlanTable.{stored_as}
use Rattle.room_writing.proofs.write.Goals as goal

pub fill-requires-2 : goal.fill-requires-2
fill-requires-2 c = (omega (arith, table_few c.requires.planned), search rules)

pub returns : goal.returns
returns c =
    let p = c.args.plan.now in
    let (room, states) = c.new-rows.ensures in
    let mark = λ (q : ℕ). mark_of c.args.room.now (get_or p.states.order q 0) in
    let marks = stored_as mark marks_at (marks_at + p.states.count) _ c.write_marks.new.marks (omega arith) (omega (arith, states_few c.requires.planned)) (omega arith) (λ q h. (rw (room, states) at (c.write_marks.ensures)) q (omega arith)) in
    image_parts c.requires.planned c.write_head.ensures c.write_classes.ensures marks c.fill.ensures (rw (room, states) at (c.write_cells.ensures)) c.fill-2.ensures
