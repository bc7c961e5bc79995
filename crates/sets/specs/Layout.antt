-- Where sets lie in the scratch that compiling is lent: in the bytes the byte set of each position, then the image of a room; in the words First and the follow set of
-- each position, then the sets that are reached, and where the first of these will lie, Last while a text is read. The code has the numbers as constants of `layout`.
--   byte_set: how many bytes a byte set has, a bit for each byte value
--   bit_at m p b: the bit b of the byte set number p, which is that of the position p + 1
--   held m p b: the byte b is in that set
--   byte_sets: how many bytes the byte sets of all positions have
--   image_at: where the image begins in the bytes
--   sets_at: the number of the first reached set in the words
--   first_at, last_at: the numbers of First and of Last while a text is read
--   read_words: how many words reading uses
use Rattle.std.specs.Prelude.{ℕ, ◌+◌, ◌*◌, ◌/◌, ◌%◌, ◌^◌, Bool, List, eqb, get_or}
use Rattle.scope.specs.Limits.{position_limit, set_words}
use Rattle.sets.specs.Value.{set_bits}

abbrev pub byte_set : ℕ
byte_set = 32

abbrev pub bit_at : List ℕ → ℕ → ℕ → ℕ
bit_at m p b = get_or m (p * byte_set + b / 8) 0 / 2 ^ (b % 8) % 2

unfoldable pub held : List ℕ → ℕ → ℕ → Bool
held m p b = eqb (bit_at m p b) 1

abbrev pub byte_sets : ℕ
byte_sets = position_limit * byte_set

abbrev pub image_at : ℕ
image_at = byte_sets

-- a set can have a number for each of its bits
abbrev pub sets_at : ℕ
sets_at = set_bits

-- no position has the number 0
abbrev pub first_at : ℕ
first_at = 0

abbrev pub last_at : ℕ
last_at = sets_at

abbrev pub read_words : ℕ
read_words = last_at * set_words + set_words
