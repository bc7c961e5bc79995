-- The numbers of 01, "Numbers that bound the work", and of 02. The code has them as constants of `Machine`; its function `limits` ties the two.
--   byte_values: how many values a byte has
--   pattern_limit, nest_limit, position_limit, class_limit, state_limit: the most that is taken
--   classes_at, marks_at, cells_at, ways_at, room_bytes: where the parts of a machine room begin, and its size
--   no_way: the way home of a state that has none
--   scratch_bytes, scratch_words, word_bytes: the sizes of the scratch and of the room for a separating string
--   set_words: how many words of 64 bits hold a set of positions, 0 included
use Rattle.std.specs.Prelude.{ℕ, ◌+◌}

-- "the 256 byte values"
abbrev pub byte_values : ℕ
byte_values = 256

-- "Pattern 1,024 bytes"
abbrev pub pattern_limit : ℕ
pattern_limit = 1024

-- "nested parentheses 32"
abbrev pub nest_limit : ℕ
nest_limit = 32

-- "positions 63"
abbrev pub position_limit : ℕ
position_limit = 63

-- "pattern classes 64"
abbrev pub class_limit : ℕ
class_limit = 64

-- "sets reached 128, before minimising"
abbrev pub state_limit : ℕ
state_limit = 128

-- "number of states n, number of classes k", a byte each, then "the class of each of the 256 byte values"
abbrev pub classes_at : ℕ
classes_at = 2

-- then "128 accept marks"
abbrev pub marks_at : ℕ
marks_at = classes_at + byte_values

-- then "8,192 table cells by row"
abbrev pub cells_at : ℕ
cells_at = marks_at + state_limit

-- then the ways home, "at its end", two bytes for each state
abbrev pub ways_at : ℕ
ways_at = 8578

-- "a room is now 8,834 bytes"
abbrev pub room_bytes : ℕ
room_bytes = 8834

-- "65,535 if there is no way"
abbrev pub no_way : ℕ
no_way = 65535

-- "Scratch: 32,768 bytes and 256 eight-byte words"
abbrev pub scratch_bytes : ℕ
scratch_bytes = 32768

abbrev pub scratch_words : ℕ
scratch_words = 256

-- "Room for a separating string: 254 bytes"
abbrev pub word_bytes : ℕ
word_bytes = 254

abbrev pub set_words : ℕ
set_words = 1
