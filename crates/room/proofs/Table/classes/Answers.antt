-- The classes are a part of the room.
use mathlib.Core.Path.{◌∙◌}
use native.Mathlib.Omega.{arith}
use lib.ListN.{length-take, length-drop}
use lib.Seq.{get_or-drop, get_or-take}
use Rattle.scope.specs.Limits.{byte_values, classes_at}
use Rattle.room.proofs.Table.classes.Goals as goal

pub returns : goal.returns
returns c =
    let m = c.self.inside.bytes.now in
    let s = c.self.invariant.sound in
    rw (← c.self.view_is) (simp (length-take, length-drop) (omega (arith, s.long)), λ b h. get_or-take byte_values _ b 0 h ∙ get_or-drop classes_at m b 0)
