-- How a text stands before a room, where its first `kept` bytes are those of an open field.
--   Stands room text kept: by one match of the text
--   OtherFields rooms form f: what it asks of the fields other than f, the open one
use Rattle.std.specs.Prelude.{ℕ, ◌+◌, ◌<◌, ◌≤◌, ◌≡◌, List, Option, Some, None, take}
use Rattle.scope.specs.Machines.Room.{Sound}
use Rattle.entry_form.specs.Text.{field_room, IsAccepted, IsDead}
use Rattle.entry_form.specs.EntryForm.{field_limit, count_of, closed_of, Fields, DeskLent}
use Rattle.entry_form.specs.ValidForm.{Empty, OpenText, ClosedField}
use Rattle.standings.specs.declared.Standing.{Standing}

-- a text with which nothing is wrong is Accepted, Unfinished or Dead, as matching says; there is no standing if the field could not have had its first bytes
module _ (room text : List ℕ) (kept : ℕ) where
  pub data Stands : Option Standing → Type 0 where
    accepted : IsAccepted room text → Stands (Some Standing.Accepted)
    unfinished : Sound room → (IsAccepted room text → ⊥) → (IsDead room text → ⊥) → Stands (Some Standing.Unfinished)
    dead : IsDead room text → OpenText room (take kept text) → Stands (Some Standing.Dead)
    lost : (Sound room → OpenText room (take kept text) → ⊥) → Stands None

-- the fields before f are filled, those after it empty, and the machines of these sound
pub record OtherFields (rooms form : List ℕ) (f : ℕ) : Type 0 where
  pub lent : DeskLent (count_of form) rooms form
  pub fields : Fields (count_of form)
  pub at : closed_of form ≡ f
  pub is_open : f < count_of form
  pub closed : (g : ℕ) → g < f → ClosedField rooms form g
  pub later : (g : ℕ) → g < field_limit → f + 1 ≤ g → Empty form g
  pub sound : (g : ℕ) → g < count_of form → f + 1 ≤ g → Sound (field_room rooms g)
