-- The texts of a form. The lengths and bytes of a form that is long enough are those of its texts.
--   text_length, text_byte_lem, text_bytes: the text of a field as the form has it
--   empty_plain: a field with no text passes
use Prim.Native.Nat.{ℕ, ◌+◌, ◌*◌, ◌≤◌, ◌<◌}
use mathlib.Core.Path.{◌≡◌, ◌∙◌}
use mathlib.Core.Logic.{⊎_elim}
use mathlib.Core.List.{List}
use native.Mathlib.Omega.{arith}
use lib.ListN.{length, get_or, drop, length-take, length-drop, get_or-eq_default}
use lib.Seq.{length-take-le, get_or-take, get_or-drop}
use Rattle.scope.specs.Bytes.{Bytes}
use Rattle.scope.specs.Limits.{byte_values}
use Rattle.scope.proofs.Counting.Tests.{split}
use Rattle.scope.proofs.Machines.Run.{bytes_known}
use Rattle.entry_form.specs.EntryForm.{field_limit, text_limit, texts_at, form_bytes, length_of, entry_byte, text_of}
use Rattle.entry_form.specs.ValidForm.{Plain, Empty}

-- a text of at most 128 bytes is as long as the form says
pub text_length : (form : List ℕ) (f : ℕ) → form_bytes ≤ length form → f < field_limit → length_of form f ≤ text_limit → length (text_of form f) ≡ length_of form f
text_length form f long h s = length-take-le (length_of form f) (drop (texts_at + f * text_limit) form) (omega (arith, length-drop (texts_at + f * text_limit) form))

-- its bytes are those of the form
pub text_byte_lem : (form : List ℕ) (f i : ℕ) → i < length_of form f → get_or (text_of form f) i 0 ≡ entry_byte form f i
text_byte_lem form f i h = get_or-take (length_of form f) (drop (texts_at + f * text_limit) form) i 0 h ∙ get_or-drop (texts_at + f * text_limit) form i 0

-- and are bytes
pub text_bytes : (form : List ℕ) (f : ℕ) → ((i : ℕ) → get_or form i 0 < byte_values) → Bytes (text_of form f)
text_bytes form f known = bytes_known (text_of form f) (λ i. ⊎_elim (λ h. rw (text_byte_lem form f i h) (known _)) (λ h. rw (past i h) (omega arith)) (split i (length_of form f)))
  where
    past : (i : ℕ) → length_of form f ≤ i → get_or (text_of form f) i 0 ≡ 0
    past i h = get_or-eq_default (text_of form f) 0 (omega (arith, length-take (length_of form f) (drop (texts_at + f * text_limit) form)))

-- a field with no text passes
pub empty_plain : {form : List ℕ} {f : ℕ} → Empty form f → Plain form f
empty_plain e = record { short = omega (arith, e.none); literal = λ i h. absurd (omega (arith, e.none)); zero = λ i h k. e.zero i h }
