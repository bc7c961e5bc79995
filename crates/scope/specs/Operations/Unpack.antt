-- Unpacking. 01: "Unpacking wants exactly that many bytes and a canonical machine."
--   Unpacks: what unpacking answers, and what every buffer holds then
-- Determined: the conditions exclude one another, and a form has one canonical room, since its fields can be read back.
-- Index: number.
use Rattle.std.specs.Prelude.{ℕ, ◌≡◌, List}
use Rattle.scope.specs.Answers.{ROOM, FORM, DONE}
use Rattle.scope.specs.Limits.{room_bytes}
use Rattle.scope.specs.Machines.Canonical.{Canonical}
use Rattle.scope.specs.Packing.PackedForm.{FormOf}
use Rattle.scope.specs.Operations.Buffers.{TailKept, Lent, Cleared, Untouched}

module _ (form room room' bytes bytes' words words' : List ℕ) where
  pub data Unpacks : ℕ → Type 0 where
    no_room : (Lent room bytes words → ⊥) → room' ≡ room → Untouched bytes bytes' words words' → Unpacks ROOM
    -- "FORM | .. for unpacking, bytes that packing can't write"
    no_form : Lent room bytes words → ((m : List ℕ) → Canonical m → FormOf m form → ⊥) → room' ≡ room → Cleared bytes bytes' words words'
        → Unpacks FORM
    unpacked : Lent room bytes words → Canonical room' → FormOf room' form → TailKept room_bytes room room' → Cleared bytes bytes' words words'
        → Unpacks DONE
