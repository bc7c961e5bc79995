-- A form. 02: "it is a lent buffer of 2,066 bytes (field count, fields closed, 16 lengths, 16 texts of 128, zero where unused)".
--   field_limit, text_limit: the most fields, and the most bytes of a text
--   lengths_at, texts_at, form_bytes: where the parts of a form begin, and its size
--   count_of, closed_of, length_of, entry_byte, text_of: its parts
--   Fields n: n is a number of fields that a form can have
--   DeskLent n rooms form: the form and n machine rooms are long enough
use Rattle.std.specs.Prelude.{ℕ, ◌+◌, ◌*◌, ◌≤◌, List, length, get_or, take, drop}
use Rattle.scope.specs.Limits.{room_bytes}

-- "A form has 1 to 16 fields"
abbrev pub field_limit : ℕ
field_limit = 16

-- "texts of 128"
abbrev pub text_limit : ℕ
text_limit = 128

-- "field count, fields closed", a byte each, then "16 lengths"
abbrev pub lengths_at : ℕ
lengths_at = 2

-- then "16 texts of 128"
abbrev pub texts_at : ℕ
texts_at = lengths_at + field_limit

-- "a lent buffer of 2,066 bytes"
abbrev pub form_bytes : ℕ
form_bytes = 2066

abbrev pub count_of : List ℕ → ℕ
count_of form = get_or form 0 0

abbrev pub closed_of : List ℕ → ℕ
closed_of form = get_or form 1 0

abbrev pub length_of : List ℕ → ℕ → ℕ
length_of form f = get_or form (lengths_at + f) 0

-- the byte i of the text of the field f
abbrev pub entry_byte : List ℕ → ℕ → ℕ → ℕ
entry_byte form f i = get_or form (texts_at + f * text_limit + i) 0

abbrev pub text_of : List ℕ → ℕ → List ℕ
text_of form f = take (length_of form f) (drop (texts_at + f * text_limit) form)

pub record Fields (n : ℕ) : Type 0 where
  pub some : 1 ≤ n
  pub few : n ≤ field_limit

-- not ROOM: "rooms short of the form's count too"
pub record DeskLent (n : ℕ) (rooms form : List ℕ) : Type 0 where
  pub form_long : form_bytes ≤ length form
  pub rooms_long : n * room_bytes ≤ length rooms
