-- ROOM is judged by the lengths and FORM by `is_sound`; what is left are two sound rooms. The scratch is cleared on every way out after the first.
use mathlib.Core.Path.{refl}
use mathlib.Core.Logic.{inl, inr}
use Rattle.scope.specs.Operations.Compare.{no_room, no_form}
use Rattle.compare.proofs.compare.Goals as goal
use Rattle.compare.proofs.compare.Goals.{then-not-is_sound-via-then-not-is_sound, then-not-is_sound-via-else-not-is_sound+then-not-is_sound-2}

pub returns-then-not-is_lent : goal.returns-then-not-is_lent
returns-then-not-is_lent c = no_room (c.is_lent.ensures.no c.if-not-is_lent.true) refl (record { bytes_kept = refl; words_kept = refl })

pub returns-then-not-is_sound : goal.returns-then-not-is_sound
returns-then-not-is_sound c =
    no_form (c.is_lent.ensures.yes c.if-not-is_lent.false)
    (elim c.then-not-is_sound.branch [
      | then-not-is_sound-via-then-not-is_sound w ↦ inl (c.is_sound.ensures.no w.if-not-is_sound.true)
      | then-not-is_sound-via-else-not-is_sound+then-not-is_sound-2 w ↦ inr (w.is_sound-else-not-is_sound.ensures.no w.if-not-is_sound-2.true)
    ])
    refl c.clear.ensures
