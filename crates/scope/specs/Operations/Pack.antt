-- Packing. 01: "Packing judges 1, 9, then its output"; "Packing returns the byte count and leaves later output bytes."
--   Packs: what packing answers, and what every buffer holds then
-- Determined: the conditions exclude one another (the two that answer ROOM by `Lent`), and the form's bytes are a function of the room.
-- Index: number, length.
use Rattle.std.specs.Prelude.{ℕ, ◌<◌, ◌≤◌, ◌≡◌, List, length}
use Rattle.scope.specs.Answers.{ROOM, FORM, DONE}
use Rattle.scope.specs.Machines.Canonical.{Canonical}
use Rattle.scope.specs.Packing.PackedForm.{form_length, form_byte}
use Rattle.scope.specs.Operations.Buffers.{Written, Lent, Cleared, Untouched}

module _ (room form form' bytes bytes' words words' : List ℕ) where
  pub data Packs : ℕ → ℕ → Type 0 where
    no_room : (Lent room bytes words → ⊥) → form' ≡ form → Untouched bytes bytes' words words' → Packs ROOM 0
    -- "FORM | .. for packing, not canonical"
    no_form : Lent room bytes words → (Canonical room → ⊥) → form' ≡ form → Cleared bytes bytes' words words' → Packs FORM 0
    -- "ROOM | .. (judged last) the packing output is shorter than the form"
    no_output : Lent room bytes words → Canonical room → length form < form_length room
        → form' ≡ form → Cleared bytes bytes' words words' → Packs ROOM 0
    packed : {n : ℕ} → Lent room bytes words → Canonical room → n ≡ form_length room → n ≤ length form
        → Written n (form_byte room) form form' → Cleared bytes bytes' words words' → Packs DONE n
