-- The test of a form, byte by byte: exactly what these machines and keys can give (`given-exact` in `desk_rules`, proofs/Exact).
--   Plain form f: the field f has at most 128 bytes, none of them a key, and zero after them
--   Empty form f: the field f has no text
--   OpenText room text: a text that a field can have while it is open: empty, or not Dead
--   Valid rooms form: the test
--   ClosedField rooms form f: what it asks of a closed field
--   NoKeys t n: none of the first n bytes of a text is a key
use Rattle.std.specs.Prelude.{ℕ, ◌<◌, ◌≤◌, ◌≡◌, ◌⊎◌, List, [], get_or}
use Rattle.entry_form.specs.Text.{Literal, field_room, IsAccepted, IsDead}
use Rattle.entry_form.specs.EntryForm.{field_limit, text_limit, count_of, closed_of, length_of, entry_byte, text_of, Fields}

-- lengths at most 128, no 0x08 or 0x0D in a text, zero after it
pub record Plain (form : List ℕ) (f : ℕ) : Type 0 where
  pub short : length_of form f ≤ text_limit
  pub literal : (i : ℕ) → i < length_of form f → Literal (entry_byte form f i)
  pub zero : (i : ℕ) → i < text_limit → length_of form f ≤ i → entry_byte form f i ≡ 0

-- no byte, and zero in the place of each
pub record Empty (form : List ℕ) (f : ℕ) : Type 0 where
  pub none : length_of form f ≡ 0
  pub zero : (i : ℕ) → i < text_limit → entry_byte form f i ≡ 0

-- a field whose language is empty can be open with an empty text, which is Dead
abbrev pub OpenText : List ℕ → List ℕ → Type 0
OpenText room text = (text ≡ []) ⊎ (IsDead room text → ⊥)

-- 1 to 16 fields, of which no more are closed; closed ones accepted, the open one kept, and no text in any other
pub record Valid (rooms form : List ℕ) : Type 0 where
  pub fields : Fields (count_of form)
  pub within : closed_of form ≤ count_of form
  pub plain : (f : ℕ) → f < field_limit → Plain form f
  pub closed : (f : ℕ) → f < closed_of form → IsAccepted (field_room rooms f) (text_of form f)
  pub open_kept : closed_of form < count_of form → OpenText (field_room rooms (closed_of form)) (text_of form (closed_of form))
  pub later : (f : ℕ) → f < field_limit → (closed_of form < f) ⊎ (count_of form ≤ f) → Empty form f

-- a closed field: a text that passes, and is accepted
pub record ClosedField (rooms form : List ℕ) (f : ℕ) : Type 0 where
  pub plain : Plain form f
  pub accepted : IsAccepted (field_room rooms f) (text_of form f)

-- none of the first n bytes of a text is a key
abbrev pub NoKeys : List ℕ → ℕ → Type 0
NoKeys t n = (i : ℕ) → i < n → Literal (get_or t i 0)
