-- A sequence of keys on a form.
--   KeysPressed rooms form keys kept form': the keys lead from form to form', and those in `kept` were answered Done
--   ByKeys rooms form: a form is opened in the buffer, and keys, each answered Done, lead from it to the form that the buffer holds
use Rattle.std.specs.Prelude.{ℕ, ◌≡◌, List, [], ◌∷◌}
use Rattle.scope.specs.Answers.{DONE}
use Rattle.scope.specs.Bytes.{Bytes}
use Rattle.entry_form.specs.EntryForm.{count_of}
use Rattle.desk_rules.specs.Open.{Opens}
use Rattle.desk_rules.specs.Press.{Presses}

module _ (rooms : List ℕ) where
  pub data KeysPressed : List ℕ → List ℕ → List ℕ → List ℕ → Type 0 where
    none : {form : List ℕ} → KeysPressed form [] [] form
    accepted : {form form₁ form₂ keys kept : List ℕ} {key : ℕ} → Presses rooms form form₁ key DONE → KeysPressed form₁ keys kept form₂
        → KeysPressed form (key ∷ keys) (key ∷ kept) form₂
    refused : {form form₁ form₂ keys kept : List ℕ} {key number : ℕ} → Presses rooms form form₁ key number → (number ≡ DONE → ⊥)
        → KeysPressed form₁ keys kept form₂ → KeysPressed form (key ∷ keys) kept form₂

-- the keys are bytes, and lead from the opened form, each answered Done
pub record ByKeys (rooms form : List ℕ) : Type 0 where
  pub first : List ℕ
  pub keys : List ℕ
  pub bytes : Bytes keys
  pub opens : Opens (count_of form) rooms form first DONE
  pub presses : KeysPressed rooms first keys keys form
