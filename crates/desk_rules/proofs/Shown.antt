-- What a form shows. Its lengths and bytes are those of its texts, so a form has the texts of the entry that it shows.
--   text_shown: the text of a field is that of the entry
use Prim.Native.Nat.{ℕ, ◌≤◌, ◌<◌}
use mathlib.Core.Path.{◌≡◌, ◌∙◌}
use mathlib.Core.List.{List}
use native.Mathlib.Omega.{arith}
use lib.ListN.{length}
use lib.Seq.{ext_get_or}
use Rattle.entry_form.specs.EntryForm.{field_limit, text_limit, form_bytes, length_of, text_of}
use Rattle.entry_form.proofs.Texts.{text_length, text_byte_lem}
use Rattle.desk_rules.specs.Entry.{Entry}
use Rattle.desk_rules.specs.Show.{Shows}

-- a form has the texts of the entry that it shows
pub text_shown : {n : ℕ} {e : Entry} {form : List ℕ} → form_bytes ≤ length form → Shows n e form → (f : ℕ) → f < field_limit → length (e.text f) ≤ text_limit
    → text_of form f ≡ e.text f
text_shown {n} {e} {form} long s f h k =
    let same : length_of form f ≡ length (e.text f) = s.lengths f h in
    let size : length (text_of form f) ≡ length_of form f = text_length form f long h (omega arith) in
    ext_get_or 0 (text_of form f) (e.text f) (size ∙ same) (λ i l. text_byte_lem form f i (omega arith) ∙ s.bytes f i h (omega arith))
