-- The answer of the match says it, whatever the text is.
use Rattle.entry_form.proofs.FieldTests.{sound_matched}
use Rattle.entry_form.proofs.valid.is_sound.Goals as goal

pub returns : goal.returns
returns c = rw c.is_ok.ensures.value (sound_matched _ c.match_text.ensures)
