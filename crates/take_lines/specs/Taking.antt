-- Taking the two lines of an input that comes in blocks. 01: "The program reads two lines from standard input, each ended by 0x0A".
--   line_ends s: how many line ends s has
--   ended l: how many of the two lines are ended where l is taken
--   Held line n buffer: n is the length of the line, or one more than a pattern may have; so much of the line stands in the buffer
--   Taken input t left right: what is known after the whole input so far
--   Grown n n' buffer buffer': a line grows, and its buffer is else kept
--   GrownBy b n n' ..: a line grows by the byte b
--   TakesBlock block t t' ..: the input goes on by a block
use Rattle.std.specs.Prelude.{ℕ, suc, ◌+◌, ◌≤◌, min, ◌≡◌, cond, List, [], ◌∷◌, ◌++◌, eqb, length, take}
use Rattle.scope.specs.Limits.{pattern_limit}
use Rattle.scope.specs.Operations.Buffers.{TailKept}
use Rattle.scope.specs.Lines.{first_line, second_line}
use Rattle.take_lines.specs.declared.Line.{Line}
use Rattle.take_lines.specs.declared.Taking.{Taking}

unfoldable pub line_ends : List ℕ → ℕ
line_ends [] = 0
line_ends (b ∷ s) = cond (eqb b 0x0A) (suc (line_ends s)) (line_ends s)

abbrev pub ended : Line → ℕ
ended Line.First = 0
ended Line.Second = 1
ended Line.Further = 2

-- of an over-long line the first 1,024 bytes are held, and the length is 1,025
pub record Held (line : List ℕ) (n : ℕ) (buffer : List ℕ) : Type 0 where
  pub count : n ≡ min (length line) (pattern_limit + 1)
  pub bytes : take (min n pattern_limit) buffer ≡ take pattern_limit line

-- "an unended last line counts as it stands, a missing line is the empty pattern, and further lines are not read"
pub record Taken (input : List ℕ) (t : Taking) (left right : List ℕ) : Type 0 where
  pub line : ended t.line ≡ min (line_ends input) 2
  pub first : Held (first_line input) t.first left
  pub second : Held (second_line input) t.second right

-- a line grows from n to n' bytes, and what stands behind it in its buffer is kept
pub record Grown (n n' : ℕ) (buffer buffer' : List ℕ) : Type 0 where
  pub more : n ≤ n'
  pub rest : TailKept (min n' pattern_limit) buffer buffer'

-- one byte more is put to whatever line stands there
pub record GrownBy (b n n' : ℕ) (buffer buffer' : List ℕ) : Type 0 where
  pub grown : Grown n n' buffer buffer'
  pub held : (line : List ℕ) → Held line n buffer → Held (line ++ (b ∷ [])) n' buffer'

-- one block more is taken, whatever the input before it
pub record TakesBlock (block : List ℕ) (t t' : Taking) (left left' right right' : List ℕ) : Type 0 where
  pub left_grown : Grown t.first t'.first left left'
  pub right_grown : Grown t.second t'.second right right'
  pub taken : (input : List ℕ) → Taken input t left right → Taken (input ++ block) t' left' right'
