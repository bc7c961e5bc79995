-- Matching. 01: "Match of a string of any length".
--   DeadAt M s i: the shortest prefix of s that no continuation would make accepted has the length i
--   Alive M s: every prefix is still completable
--   Matches: what matching answers. Nothing is written
-- Determined, for strings of bytes: a string that is accepted completes each of its prefixes, so it is never dead.
-- Index: number, place.
use Rattle.std.specs.Prelude.{ℕ, ◌<◌, ◌≤◌, List, length, take}
use Rattle.scope.specs.Answers.{ROOM, FORM, ACCEPTED, DEAD, UNFINISHED}
use Rattle.scope.specs.Limits.{room_bytes}
use Rattle.scope.specs.Machines.Machine.{Machine, Accepts, Completable}
use Rattle.scope.specs.Machines.Room.{machine, Sound}

-- "the length of the shortest prefix that no continuation would make accepted (0 if the language is empty)"
pub record DeadAt (M : Machine) (s : List ℕ) (i : ℕ) : Type 0 where
  pub inside : i ≤ length s
  pub dead : Completable M (take i s) → ⊥
  pub before : (j : ℕ) → j < i → Completable M (take j s)

-- "every prefix still completable"
abbrev pub Alive : Machine → List ℕ → Type 0
Alive M s = (j : ℕ) → j ≤ length s → Completable M (take j s)

module _ (room text : List ℕ) where
  pub data Matches : ℕ → ℕ → Type 0 where
    no_room : length room < room_bytes → Matches ROOM 0
    no_form : room_bytes ≤ length room → (Sound room → ⊥) → Matches FORM 0
    accepted : Sound room → Accepts (machine room) text → Matches ACCEPTED 0
    dead : {i : ℕ} → Sound room → DeadAt (machine room) text i → Matches DEAD i
    -- "every prefix still completable but the string not accepted"
    unfinished : Sound room → Alive (machine room) text → (Accepts (machine room) text → ⊥) → Matches UNFINISHED 0
