-- A mark begins no atom. After one the machine goes on as it stood, and nothing is noted.
--   mark_step, mark_notes: the state after a mark, and what is noted
use Prim.Native.Nat.{ℕ}
use mathlib.Core.Path.{◌≡◌, refl, ◌∙◌}
use mathlib.Core.Bool.{true}
use Rattle.scope.specs.Text.Grammar.{literal, is_mark}
use Rattle.scope.proofs.Text.Marks.{each_mark}
use Rattle.modes.specs.Modes.{atom, State, at, after_atom, begins, next}
use Rattle.modes.specs.Notes.{Sheet, begun}

module _ (b : ℕ) (h : is_mark b ≡ true) where
  mark_begins : (n : ℕ) (x : State) → begins atom n b x ≡ x
  unfolding literal
  mark_begins n x = each_mark (λ c. begins atom n c x ≡ x) refl refl refl h

  pub mark_step : (n : ℕ) → next after_atom n b ≡ at after_atom n
  mark_step n = mark_begins n _ ∙ rw h refl

  pub mark_notes : (n i : ℕ) (k x : Sheet) → begun atom n b i k x ≡ x
  unfolding literal
  mark_notes n i k x = each_mark (λ c. begun atom n c i k x ≡ x) refl refl refl h
