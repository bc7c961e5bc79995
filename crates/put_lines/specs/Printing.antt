-- The program's lines by the pieces that the code puts, and the code's values as those of 01.
--   side_of: what compiling one side answered
--   outcome: what comparing answered
--   counted before n between m: a line with two numbers in it, from some place on
--   told: a side's line behind its name
--   same, separated: the lines of two machines that are the same, and of two that a string separates
use Rattle.std.specs.Prelude.{ℕ, cond, List, [], ◌∷◌, ◌++◌, eqb, length, Result, Ok, Err}
use Rattle.scope.specs.Bytes.{ascii}
use Rattle.scope.specs.Answers.{DONE}
use Rattle.scope.specs.Lines.{Outcome, decimal, shown}
use Rattle.scope.specs.Lines as lines
use Rattle.scope.specs.declared.Machine.{Machine}
use Rattle.put_lines.specs.declared.sides.Refused.{Refused}

-- the machine has a number and a place like every answer; a refused side has neither states nor classes
abbrev pub side_of : Result Machine Refused → lines.Side
side_of (Ok machine) = record { number = DONE; place = 0; states = machine.states; classes = machine.classes }
side_of (Err refused) = record { number = refused.number; place = refused.place; states = 0; classes = 0 }

abbrev pub outcome : ℕ → ℕ → List ℕ → Outcome
outcome number rounds word = record { number = number; rounds = rounds; word = word }

-- as " states 3 classes 3" and its end
abbrev pub counted : List ℕ → ℕ → List ℕ → ℕ → List ℕ
counted before n between m = before ++ (decimal n ++ (between ++ (decimal m ++ (0x0A ∷ []))))

-- "left states 3 classes 3", "left refused 3 at 2": what follows "left"
unfoldable pub told : lines.Side → List ℕ
told a = cond (eqb a.number DONE) (counted (ascii " states ") a.states (ascii " classes ") a.classes) (counted (ascii " refused ") a.number (ascii " at ") a.place)

-- "same rounds 3"
abbrev pub same : ℕ → List ℕ
same rounds = ascii "same rounds " ++ (decimal rounds ++ (0x0A ∷ []))

-- "separated length 2 rounds 2", "word 6261"
abbrev pub separated : List ℕ → ℕ → List ℕ
separated word rounds = counted (ascii "separated length ") (length word) (ascii " rounds ") rounds ++ (ascii "word " ++ (shown word ++ (0x0A ∷ [])))
