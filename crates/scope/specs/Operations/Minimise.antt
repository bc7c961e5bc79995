-- Minimising. 01: "Minimising reads one sound room and writes, into another, the canonical machine of the same strings."
--   MinimiseLent: not ROOM
--   Minimises: what minimising answers, and what every buffer holds then
-- Determined: the three conditions exclude one another, and two canonical rooms for the same strings are the same bytes.
-- Index: number.
use Rattle.std.specs.Prelude.{ℕ, ◌≤◌, ◌≡◌, List, length}
use Rattle.scope.specs.Answers.{ROOM, FORM, DONE}
use Rattle.scope.specs.Limits.{room_bytes}
use Rattle.scope.specs.Machines.Machine.{Equal}
use Rattle.scope.specs.Machines.Room.{machine, Sound}
use Rattle.scope.specs.Machines.Canonical.{Canonical}
use Rattle.scope.specs.Operations.Buffers.{TailKept, Scratch, Cleared, Untouched}

pub record MinimiseLent (from room bytes words : List ℕ) : Type 0 where
  pub from_long : room_bytes ≤ length from
  pub room_long : room_bytes ≤ length room
  pub scratch : Scratch bytes words

module _ (from room room' bytes bytes' words words' : List ℕ) where
  pub data Minimises : ℕ → Type 0 where
    no_room : (MinimiseLent from room bytes words → ⊥) → room' ≡ room → Untouched bytes bytes' words words' → Minimises ROOM
    -- "FORM | a room to be read is not sound"
    no_form : MinimiseLent from room bytes words → (Sound from → ⊥) → room' ≡ room → Cleared bytes bytes' words words' → Minimises FORM
    minimised : MinimiseLent from room bytes words → Sound from
        → Canonical room' → Equal (machine from) (machine room') → TailKept room_bytes room room' → Cleared bytes bytes' words words'
        → Minimises DONE
