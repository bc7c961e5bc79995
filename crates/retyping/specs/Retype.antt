-- Another text in a field.
--   Retyped form form' f t: the field f has another text
use Rattle.std.specs.Prelude.{ℕ, ◌+◌, ◌*◌, ◌<◌, ◌≤◌, ◌≡◌, ◌⊎◌, List, length, get_or}
use Rattle.entry_form.specs.EntryForm.{text_limit, lengths_at, texts_at, length_of, entry_byte}

-- the field f has the text t, and everything else is kept
pub record Retyped (form form' : List ℕ) (f : ℕ) (t : List ℕ) : Type 0 where
  pub size : length form' ≡ length form
  pub long : length_of form' f ≡ length t
  pub bytes : (i : ℕ) → i < text_limit → entry_byte form' f i ≡ get_or t i 0
  pub outside : (j : ℕ) → (j ≡ lengths_at + f → ⊥) → ((j < texts_at + f * text_limit) ⊎ (texts_at + f * text_limit + text_limit ≤ j)) → get_or form' j 0 ≡ get_or form j 0
