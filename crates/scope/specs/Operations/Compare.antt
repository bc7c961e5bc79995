-- Comparing. 01: "Same with rounds; or Separated with length and rounds."
--   CompareLent: not ROOM
--   Compares: what comparing answers, and what every buffer holds then
-- Determined: the least number of rounds is one, two shortest strings are as long, and two first ones equal.
-- Index: number, length, rounds.
use Rattle.std.specs.Prelude.{ℕ, ◌≤◌, ◌≡◌, ◌⊎◌, List, length, get_or}
use Rattle.scope.specs.Answers.{ROOM, FORM, SAME, SEPARATED}
use Rattle.scope.specs.Limits.{room_bytes, word_bytes}
use Rattle.scope.specs.Machines.Machine.{Equal}
use Rattle.scope.specs.Machines.Room.{machine, Sound}
use Rattle.scope.specs.Machines.Rounds.{aside, Rounds}
use Rattle.scope.specs.Machines.Separate.{Separation}
use Rattle.scope.specs.Operations.Buffers.{Written, Scratch, Cleared, Untouched}

pub record CompareLent (left right word bytes words : List ℕ) : Type 0 where
  pub left_long : room_bytes ≤ length left
  pub right_long : room_bytes ≤ length right
  pub word_long : word_bytes ≤ length word
  pub scratch : Scratch bytes words

module _ (left right word word' bytes bytes' words words' : List ℕ) where
  pub data Compares : ℕ → ℕ → ℕ → Type 0 where
    no_room : (CompareLent left right word bytes words → ⊥) → word' ≡ word → Untouched bytes bytes' words words' → Compares ROOM 0 0
    -- "FORM | a room to be read is not sound"
    no_form : CompareLent left right word bytes words → ((Sound left → ⊥) ⊎ (Sound right → ⊥)) → word' ≡ word → Cleared bytes bytes' words words'
        → Compares FORM 0 0
    -- "on Same all of it stays"
    same : {r : ℕ} → CompareLent left right word bytes words → Sound left → Sound right
        → Equal (machine left) (machine right) → Rounds (aside (machine left) (machine right)) r
        → word' ≡ word → Cleared bytes bytes' words words' → Compares SAME 0 r
    -- "The first bytes of the string room then hold the string, the rest stays"
    separated : {n r : ℕ} {w : List ℕ} → CompareLent left right word bytes words → Sound left → Sound right
        → Separation (machine left) (machine right) w → length w ≡ n → Rounds (aside (machine left) (machine right)) r
        → Written n (λ i. get_or w i 0) word word' → Cleared bytes bytes' words words' → Compares SEPARATED n r
