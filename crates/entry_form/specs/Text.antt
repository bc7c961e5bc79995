-- The text of a field: which bytes can be in it, and what matching answers to it.
--   BACK, CLOSE: the two bytes that are keys; Literal key: any other byte
--   field_room rooms f: the machine room of the field f
--   IsAccepted, IsDead: matching answers Accepted, or Dead
use Rattle.std.specs.Prelude.{ℕ, ◌*◌, ◌≡◌, List, drop}
use Rattle.scope.specs.Answers.{ACCEPTED, DEAD}
use Rattle.scope.specs.Limits.{room_bytes}
use Rattle.scope.specs.Operations.Match.{Matches}

-- "0x08 takes back the last byte"
abbrev pub BACK : ℕ
BACK = 8

-- "0x0D closes an Accepted field and moves on"
abbrev pub CLOSE : ℕ
CLOSE = 13

-- "These two bytes are keys, never text."
abbrev pub Literal : ℕ → Type 0
Literal key = (key ≡ BACK → ⊥) × (key ≡ CLOSE → ⊥)

-- "the machine rooms are lent end to end with every call"
abbrev pub field_room : List ℕ → ℕ → List ℕ
field_room rooms f = drop (f * room_bytes) rooms

-- what matching answers: "an Accepted field", "the field with that byte is Dead"
abbrev pub IsAccepted : List ℕ → List ℕ → Type 0
IsAccepted room text = Matches room text ACCEPTED 0

pub record IsDead (room text : List ℕ) : Type 0 where
  pub place : ℕ
  pub matched : Matches room text DEAD place
