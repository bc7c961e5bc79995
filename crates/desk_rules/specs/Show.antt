-- How a form shows what was entered.
--   Shows n e form: the form of n fields with the entry e
use Rattle.std.specs.Prelude.{ℕ, ◌<◌, ◌≡◌, List, length, get_or}
use Rattle.entry_form.specs.EntryForm.{field_limit, text_limit, count_of, closed_of, length_of, entry_byte}
use Rattle.desk_rules.specs.Entry.{Entry}

-- "zero where unused": a text is read with 0 past its end, and is empty where there is no field
pub record Shows (n : ℕ) (e : Entry) (form : List ℕ) : Type 0 where
  pub count : count_of form ≡ n
  pub closed : closed_of form ≡ e.closed
  pub lengths : (f : ℕ) → f < field_limit → length_of form f ≡ length (e.text f)
  pub bytes : (f i : ℕ) → f < field_limit → i < text_limit → entry_byte form f i ≡ get_or (e.text f) i 0
