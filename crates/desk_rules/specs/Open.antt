-- Opening a form.
--   AllSound rooms n: each of the n machines is sound
--   Opens: what opening answers, and what the form holds then. Index: number.
-- Determined: the conditions exclude one another, and a form of nothing is one.
use Rattle.std.specs.Prelude.{ℕ, ◌<◌, ◌≡◌, List}
use Rattle.scope.specs.Answers.{DONE, ROOM, FORM}
use Rattle.scope.specs.Operations.Buffers.{TailKept}
use Rattle.scope.specs.Machines.Room.{Sound}
use Rattle.entry_form.specs.EntryForm.{form_bytes, Fields, DeskLent}
use Rattle.entry_form.specs.Text.{field_room}
use Rattle.desk_rules.specs.DeskAnswers.{FIELDS}
use Rattle.desk_rules.specs.Entry.{nothing}
use Rattle.desk_rules.specs.Show.{Shows}

-- not FORM: "9 for an unsound machine"
abbrev pub AllSound : List ℕ → ℕ → Type 0
AllSound rooms n = (f : ℕ) → f < n → Sound (field_room rooms f)

module _ (n : ℕ) (rooms form form' : List ℕ) where
  -- "on opening, 21 FIELDS for a count outside 1 to 16, then 1, then 9 for an unsound machine"
  pub data Opens : ℕ → Type 0 where
    no_fields : (Fields n → ⊥) → form' ≡ form → Opens FIELDS
    no_room : Fields n → (DeskLent n rooms form → ⊥) → form' ≡ form → Opens ROOM
    no_form : Fields n → DeskLent n rooms form → (AllSound rooms n → ⊥) → form' ≡ form → Opens FORM
    opened : Fields n → DeskLent n rooms form → AllSound rooms n → Shows n nothing form' → TailKept form_bytes form form' → Opens DONE
