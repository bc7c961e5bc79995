-- All fields, then the filling.
use borrow.Author.Rules.{rules}
use mathlib.Core.Path.{ap}
use lib.ListN.{length}
use native.Mathlib.Omega.{arith}
use Rattle.put_packed.proofs.RoomParts.{FormFits, enough, form_out}
use Rattle.put_packed.proofs.pack_fields.Goals as goal
use Rattle.put_packed.proofs.pack_fields.Goals.{After-put_parts}

fits : (c : After-put_parts) → FormFits c.args.room.now c.args.out.now
fits c = record { sound = c.put_parts.ensures.sound; room = c.requires }

pub finish-requires : goal.finish-requires
finish-requires c =
    let head = c.put_head.ensures.put in
    let parts = c.put_parts.ensures.put.put in
    omega (
      arith,
      enough (fits (goal.at.finish-requires c).After-put_parts),
      ap length c.new-bits.ensures.kept,
      head.size,
      head.place,
      parts.size,
      parts.place,
    )

pub returns : goal.returns
returns c =
    let all = form_out (fits (goal.at.returns c).After-put_parts) c.new-bits.ensures.kept c.new-bits.ensures.none c.put_head.ensures c.put_parts.ensures.put c.finish.ensures in
    search rules
