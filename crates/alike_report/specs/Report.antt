-- What the program prints for two texts. 01: "One program prints a comparison."
--   Compiling text room a: a is what compiling the text answered, with the states and classes of the room that it left
--   Comparing left right c: c is what comparing the two rooms answered, with the string
--   Puts a b left right out out' n: the first n bytes of out' are the program's lines for two sides and their rooms
--   Reports left right out out' n: the first n bytes of out' are the program's lines for the two texts
use Rattle.std.specs.Prelude.{ℕ, ◌≡◌, List, take}
use Rattle.scope.specs.Operations.Buffers.{Lent}
use Rattle.scope.specs.Operations.Compile.{Compiles}
use Rattle.scope.specs.Operations.Compare.{CompareLent, Compares}
use Rattle.scope.specs.Lines.{Side, Outcome, printed}
use Rattle.scope.specs.Machines.Room.{states_of, classes_of}
use Rattle.line_pieces.specs.Appended.{Appended}

-- into whatever room, with whatever scratch
pub data Compiling (text room : List ℕ) (a : Side) : Type 0 where
  compiling : {before bytes bytes' words words' : List ℕ} → Lent before bytes words
      → Compiles text before room bytes bytes' words words' a.number a.place → a.states ≡ states_of room → a.classes ≡ classes_of room
      → Compiling text room a

pub data Comparing (left right : List ℕ) (c : Outcome) : Type 0 where
  comparing : {before word bytes bytes' words words' : List ℕ} {count : ℕ} → CompareLent left right before bytes words
      → Compares left right before word bytes bytes' words words' c.number count c.rounds → c.word ≡ take count word
      → Comparing left right c

pub data Puts (a b : Side) (left right out out' : List ℕ) (n : ℕ) : Type 0 where
  puts : {c : Outcome} → Comparing left right c → Appended out out' 0 (printed a b c) n → Puts a b left right out out' n

pub data Reports (left right out out' : List ℕ) (n : ℕ) : Type 0 where
  reports : {left-room right-room : List ℕ} {a b : Side} → Compiling left left-room a → Compiling right right-room b → Puts a b left-room right-room out out' n
      → Reports left right out out' n
