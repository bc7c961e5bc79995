-- What a key tells beside its answer. 02: "The desk passes this on with refusal 10".
--   open_room rooms form, typed_text form key: the open field's room, and its text with a byte after it
--   Passes: the array that is lent with a key, as it is then. Index: number
-- Determined: a text dies at one place, and what could have stood there is one array.
use Rattle.std.specs.Prelude.{ℕ, ◌≡◌, List, [], ◌∷◌, ◌++◌}
use Rattle.scope.specs.Machines.Room.{machine}
use Rattle.telling.specs.Expected.{Expected}
use Rattle.entry_form.specs.EntryForm.{closed_of, text_of}
use Rattle.entry_form.specs.Text.{field_room, IsDead}
use Rattle.desk_rules.specs.DeskAnswers.{DEAD_BYTE}

-- "the field with that byte"
abbrev pub open_room : List ℕ → List ℕ → List ℕ
open_room rooms form = field_room rooms (closed_of form)

abbrev pub typed_text : List ℕ → ℕ → List ℕ
typed_text form key = text_of form (closed_of form) ++ (key ∷ [])

-- what the matcher tells of it, with refusal 10; with every other answer nothing is written
module _ (rooms form : List ℕ) (key : ℕ) (e e' : List ℕ) where
  pub data Passes : ℕ → Type 0 where
    passed : (d : IsDead (open_room rooms form) (typed_text form key)) → Expected (machine (open_room rooms form)) (typed_text form key) d.place e' → Passes DEAD_BYTE
    kept : {number : ℕ} → (number ≡ DEAD_BYTE → ⊥) → e' ≡ e → Passes number
