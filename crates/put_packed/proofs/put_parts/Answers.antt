-- Part after part, each from the bit where the one before it ended.
use Prim.Native.Nat.{◌+◌, ◌-◌, ◌*◌}
use mathlib.Core.Path.{◌≡◌, ◌∙◌}
use native.Mathlib.Omega.{arith}
use Rattle.scope.specs.Limits.{marks_at, cells_at}
use Rattle.scope.specs.Machines.Room.{states_of, classes_of}
use Rattle.put_packed.proofs.RoomParts.{FormFits, part_classes_ready, part_marks_ready, part_cells_ready, parts_out}
use Rattle.put_packed.proofs.put_parts.Goals as goal
use Rattle.put_packed.proofs.put_parts.Goals.{After-head-machine, After-used_cells-cells_end}

fits : (c : After-head-machine) → FormFits c.args.room.now c.args.bits.now.out.now
fits c = record { sound = c.head-machine.ensures.sound; room = c.requires.0 }

-- how many marks and cells the room has
marks : (c : After-head-machine) → marks_at + c.head-machine.result.states - marks_at ≡ states_of c.args.room.now
marks c = omega (arith, c.head-machine.ensures.counts.0)

cells : (c : After-used_cells-cells_end) → cells_at + c.used_cells-cells_end.result - cells_at ≡ states_of c.args.room.now * classes_of c.args.room.now
cells c =
    let all : c.used_cells-cells_end.result ≡ states_of c.args.room.now * classes_of c.args.room.now =
    c.used_cells-cells_end.ensures.0 ∙ rw (c.head-machine.ensures.counts.0, c.head-machine.ensures.counts.1) in
    omega arith

pub put_each-requires : goal.put_each-requires
put_each-requires c = part_classes_ready c.args.bits.now (fits (goal.at.put_each-requires c).After-head-machine) c.requires.1 c.bytes-bytes.ensures.bytes

pub put_each-requires-2 : goal.put_each-requires-2
put_each-requires-2 c = part_marks_ready c.args.bits.now (fits (goal.at.put_each-requires-2 c).After-head-machine) c.requires.1 c.bytes-bytes.ensures.bytes c.put_each.ensures (marks (goal.at.put_each-requires-2 c).After-head-machine)

pub put_each-requires-3 : goal.put_each-requires-3
put_each-requires-3 c =
    part_cells_ready c.args.bits.now (fits (goal.at.put_each-requires-3 c).After-head-machine) c.requires.1 c.bytes-bytes.ensures.bytes c.put_each.ensures (marks (goal.at.put_each-requires-3 c).After-head-machine) c.put_each-2.ensures
    (cells (goal.at.put_each-requires-3 c).After-used_cells-cells_end)

pub returns-clause-put : goal.returns-clause-put
returns-clause-put c =
    parts_out c.args.bits.now (fits (goal.at.returns-clause-put c).After-head-machine) c.requires.1 c.bytes-bytes.ensures.bytes c.put_each.ensures (marks (goal.at.returns-clause-put c).After-head-machine) c.put_each-2.ensures
    (cells (goal.at.returns-clause-put c).After-used_cells-cells_end) c.put_each-3.ensures
