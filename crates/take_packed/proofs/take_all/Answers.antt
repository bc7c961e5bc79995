-- Part after part, into a room that is blank but for its head.
use mathlib.Core.Path.{refl}
use native.Mathlib.Omega.{arith}
use Rattle.scope.specs.Limits.{byte_values, classes_at, marks_at, cells_at}
use Rattle.take_packed.proofs.Taken.{part_taken, image_made}
use Rattle.take_packed.proofs.take_all.Goals as goal

pub returns : goal.returns
returns c =
    let head = c.requires.0.named in
    let size = c.blank.ensures.tail.size in
    let used = c.used_cells-cells_end in
    let classes = part_taken classes_at byte_values byte_values c.blank.new.room c.take_each.new.bytes refl (omega (arith, size)) c.take_each.auto.bytes c.take_each.ensures in
    let marks = part_taken marks_at _ c.args.machine.states _ c.take_each-2.new.bytes (omega arith) (omega (arith, size, classes.size, head.few_states)) c.take_each-2.auto.bytes c.take_each-2.ensures in
    let cells = part_taken cells_at _ used.result _ c.take_each-3.new.bytes (omega arith) (omega (arith, size, classes.size, marks.size, used.ensures.1)) c.take_each-3.auto.bytes c.take_each-3.ensures in
    image_made c.requires.0 used.ensures.0 c.requires.1 c.blank.ensures classes marks cells
