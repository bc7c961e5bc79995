-- A key on a form.
--   CanGive rooms form: these machines and keys can give the form
--   Ready rooms form: not FORM
--   Presses: what a key answers, and what the form holds then. Index: number.
-- Determined: a form shows one entry, and a key has one answer to it.
use Rattle.std.specs.Prelude.{ℕ, ◌≡◌, List}
use Rattle.scope.specs.Answers.{ROOM, FORM}
use Rattle.scope.specs.Operations.Buffers.{TailKept}
use Rattle.entry_form.specs.EntryForm.{form_bytes, count_of, Fields, DeskLent}
use Rattle.desk_rules.specs.Entry.{Entry}
use Rattle.desk_rules.specs.Show.{Shows}
use Rattle.desk_rules.specs.Key.{Judges, entry_after, Gives}
use Rattle.desk_rules.specs.Open.{AllSound}

-- "a form these machines and keys can't give": some keys from an opened form lead to it
pub record CanGive (rooms form : List ℕ) : Type 0 where
  pub entry : Entry
  pub fields : Fields (count_of form)
  pub gives : Gives rooms (count_of form) entry
  pub shows : Shows (count_of form) entry form

-- not FORM: sound machines, and a form that they and keys can give
pub record Ready (rooms form : List ℕ) : Type 0 where
  pub sound : AllSound rooms (count_of form)
  pub given : CanGive rooms form

module _ (rooms form form' : List ℕ) (key : ℕ) where
  -- "on a key, 1 (rooms short of the form's count too), 9 (a form these machines and keys can't give too)", then the key's own answers
  pub data Presses : ℕ → Type 0 where
    no_room : (DeskLent (count_of form) rooms form → ⊥) → form' ≡ form → Presses ROOM
    no_form : DeskLent (count_of form) rooms form → (Ready rooms form → ⊥) → form' ≡ form → Presses FORM
    answered : {number : ℕ} → DeskLent (count_of form) rooms form → (r : Ready rooms form) → Judges rooms (count_of form) r.given.entry key number
        → Shows (count_of form) (entry_after r.given.entry key number) form' → TailKept form_bytes form form' → Presses number
