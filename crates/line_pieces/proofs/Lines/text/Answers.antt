-- The text is copied to the part behind what was put.
use mathlib.Core.Path.{refl}
use Rattle.line_pieces.proofs.Appending.{appended_text}
use Rattle.line_pieces.proofs.Lines.text.Goals as goal

pub returns : goal.returns
returns c = record { same_buffer = refl; appended = appended_text c.args.self.now.out.now c.args.text.now _ c.args.self.now.at _ refl c.requires c.copy_from_slice.ensures.after }
