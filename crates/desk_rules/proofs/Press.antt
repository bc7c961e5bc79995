-- A key on a form: what is so whatever it answers, and when it answers FORM.
--   presses_size: a key leaves a form as long as it was
--   refused: the form is none that keys can give
use Prim.Native.Nat.{ℕ}
use mathlib.Core.Path.{◌≡◌, refl, ap}
use mathlib.Core.List.{List}
use lib.ListN.{length}
use Rattle.scope.specs.Answers.{FORM}
use Rattle.entry_form.specs.EntryForm.{count_of, DeskLent}
use Rattle.entry_form.specs.ValidForm.{Valid}
use Rattle.desk_rules.specs.Open.{AllSound}
use Rattle.desk_rules.specs.Press.{Presses, no_room, no_form, answered}
use Rattle.desk_rules.proofs.Exact.{given_valid}

-- a key leaves a form as long as it was
pub presses_size : {rooms form form' : List ℕ} {key number : ℕ} → Presses rooms form form' key number → length form' ≡ length form
presses_size (no_room h e) = ap length e
presses_size (no_form l h e) = ap length e
presses_size (answered l r u s k) = k.size

-- a form with an unsound machine, or that does not pass the test
pub refused : {rooms form : List ℕ} {key : ℕ} → DeskLent (count_of form) rooms form → (AllSound rooms (count_of form) → Valid rooms form → ⊥) → Presses rooms form form key FORM
refused lent n = no_form lent (λ r. n r.sound (given_valid lent.form_long r.given)) refl
