-- The head of a room as it is written, and a way home as it is read.
--   head_byte n k i: the byte i of the head of a room with n states and k classes
--   TableRead m n k: a room of bytes whose table is sound, and whose head is read
--   way_of m q: the number that the two bytes beside the state q are
use Rattle.std.specs.Prelude.{ℕ, ◌+◌, ◌*◌, ◌<◌, ◌≡◌, cond, List, ltb, get_or}
use Rattle.scope.specs.Limits.{byte_values, ways_at}
use Rattle.scope.specs.Machines.Room.{states_of, classes_of, SoundTable}

-- "number of states n, number of classes k", a byte each
abbrev pub head_byte : ℕ → ℕ → ℕ → ℕ
head_byte n k i = cond (ltb i 1) n k

-- a room of bytes is sound up to its ways home, and has n states and k classes
pub record TableRead (m : List ℕ) (n k : ℕ) : Type 0 where
  pub sound : SoundTable m
  pub states : n ≡ states_of m
  pub classes : k ≡ classes_of m
  pub fit : (i : ℕ) → get_or m i 0 < byte_values

-- "in two bytes", "high byte first"
abbrev pub way_of : List ℕ → ℕ → ℕ
way_of m q = get_or m (ways_at + q * 2) 0 * byte_values + get_or m (ways_at + q * 2 + 1) 0
