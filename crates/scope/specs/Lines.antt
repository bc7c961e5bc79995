-- What the program prints, as bytes of the answers. 01: "The program reads two lines from standard input".
--   first_line, second_line: the two patterns of an input
--   decimal n, hexes w: a number in decimal, a string in lower-case hex
--   Side, Outcome: what compiling one side, and comparing both, answered
--   side_line, outcome_lines, printed: a side's line, the lines of the comparison, the whole
use Rattle.std.specs.Prelude.{ℕ, zero, suc, ◌+◌, ◌/◌, ◌%◌, true, false, cond, List, [], ◌∷◌, ◌++◌, eqb, ltb, length}
use Prim.Native.Char.{code}
use Prim.Native.String.{String}
use Rattle.scope.specs.Bytes.{ascii}
use Rattle.scope.specs.Answers.{DONE, SAME}

-- ---- input

-- "each ended by 0x0A; an unended last line counts as it stands"
unfoldable pub first_line : List ℕ → List ℕ
first_line [] = []
first_line (b ∷ s) = cond (eqb b 0x0A) [] (b ∷ first_line s)

-- what stands behind the first line
unfoldable pub further : List ℕ → List ℕ
further [] = []
further (b ∷ s) = cond (eqb b 0x0A) s (further s)

-- "a missing line is the empty pattern, and further lines are not read"
unfoldable pub second_line : List ℕ → List ℕ
unfolding first_line further
second_line s = first_line (further s)

-- ---- numbers and strings

-- the digits of n, of at most so many
unfoldable pub digits : ℕ → ℕ → List ℕ
digits zero n = []
digits (suc most) n = elim (ltb n 10) [ true ↦ (code "0" + n) ∷ [] | false ↦ digits most (n / 10) ++ ((code "0" + n % 10) ∷ []) ]

unfoldable pub decimal : ℕ → List ℕ
unfolding digits
decimal n = digits (suc n) n

unfoldable pub hex_digit : ℕ → ℕ
hex_digit d = cond (ltb d 10) (code "0" + d) (code "a" + d % 10)

unfoldable pub hexes : List ℕ → List ℕ
unfolding hex_digit
hexes [] = []
hexes (b ∷ w) = hex_digit (b / 16) ∷ hex_digit (b % 16) ∷ hexes w

-- "lower-case hex, `-` if empty"
unfoldable pub shown : List ℕ → List ℕ
unfolding hexes
shown [] = ascii "-"
shown (b ∷ w) = hexes (b ∷ w)

-- ---- lines

-- compiling one side: number and place, and the states and classes of its room
pub record Side : Type 0 where
  pub number : ℕ
  pub place : ℕ
  pub states : ℕ
  pub classes : ℕ

-- comparing: number and rounds, and the separating string
pub record Outcome : Type 0 where
  pub number : ℕ
  pub rounds : ℕ
  pub word : List ℕ

abbrev line_end : List ℕ
line_end = 0x0A ∷ []

-- "left states 3 classes 3"; "A refused side prints `left refused 3 at 2` in its line"
unfoldable pub side_line : String → Side → List ℕ
unfolding decimal
side_line name a =
    ascii name
    ++ (cond (eqb a.number DONE)
    (ascii " states " ++ (decimal a.states ++ (ascii " classes " ++ decimal a.classes)))
    (ascii " refused " ++ (decimal a.number ++ (ascii " at " ++ decimal a.place)))
    ++ line_end)

-- "separated length 2 rounds 2", "word 6261"; "Two like patterns give `same rounds R` and no word line."
unfoldable pub outcome_lines : Outcome → List ℕ
unfolding decimal shown
outcome_lines c =
    cond (eqb c.number SAME)
    (ascii "same rounds " ++ (decimal c.rounds ++ line_end))
    (ascii "separated length " ++ (decimal (length c.word) ++ (ascii " rounds " ++ (decimal c.rounds ++ (line_end ++ (ascii "word " ++ (shown c.word ++ line_end)))))))

-- a refused side: "nothing follows the two lines"
unfoldable pub printed : Side → Side → Outcome → List ℕ
unfolding side_line outcome_lines
printed left right c =
    side_line "left" left
    ++ (side_line "right" right
    ++ cond (eqb left.number DONE) (cond (eqb right.number DONE) (outcome_lines c) []) [])
