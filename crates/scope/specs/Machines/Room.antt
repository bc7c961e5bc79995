-- A machine room: a list of bytes, of which the first 8,834 count. "A longer room is allowed; its tail is never touched."
--   states_of, classes_of, class_of, mark_of, cell_of: its parts
--   machine m: the machine that a room holds. A step goes by the byte's class: a class that no byte has is never read
--   Below m from to limit: the bytes from `from` up to `to` are below `limit`
--   WayBeside m q: the two bytes beside the state q are its way home
--   SoundTable m, SoundWays m: its table is sound, up to the ways home; and so are these
--   Sound m: the room is sound
--   SameTables a b: two rooms are equal up to the ways home
--   SameBytes a b: the first 8,834 bytes of two rooms are equal
use Rattle.std.specs.Prelude.{ℕ, ◌+◌, ◌*◌, ◌/◌, ◌%◌, ◌≤◌, ◌<◌, ◌≡◌, List, eqb, length, get_or}
use Rattle.scope.specs.Limits.{byte_values, class_limit, state_limit, classes_at, marks_at, cells_at, ways_at, room_bytes}
use Rattle.scope.specs.Machines.Machine.{Machine}
use Rattle.scope.specs.Machines.Ways.{Way}

-- "number of states n"
abbrev pub states_of : List ℕ → ℕ
states_of m = get_or m 0 0

-- "number of classes k"
abbrev pub classes_of : List ℕ → ℕ
classes_of m = get_or m 1 0

-- "the class of each of the 256 byte values"
abbrev pub class_of : List ℕ → ℕ → ℕ
class_of m b = get_or m (classes_at + b) 0

-- "128 accept marks"
abbrev pub mark_of : List ℕ → ℕ → ℕ
mark_of m q = get_or m (marks_at + q) 0

-- "the cell for state q and class c is at q·k + c"
abbrev pub cell_of : List ℕ → ℕ → ℕ → ℕ
cell_of m q c = get_or m (cells_at + (q * classes_of m + c)) 0

unfoldable pub next_of : List ℕ → ℕ → ℕ → ℕ
next_of m q b = cell_of m q (class_of m b)

abbrev pub machine : List ℕ → Machine
machine m = record { states = states_of m; next = next_of m; accepts = λ q. eqb (mark_of m q) 1 }

abbrev pub Below : List ℕ → ℕ → ℕ → ℕ → Type 0
Below m from to limit = (i : ℕ) → i < to → from ≤ i → get_or m i 0 < limit

-- "It is sound if n is 1 to 128, k is 1 to 64, classes are below k, marks are 0 or 1, used cells are below n, and unused marks and cells are 0."
pub record SoundTable (m : List ℕ) : Type 0 where
  pub long : room_bytes ≤ length m
  pub some_state : 1 ≤ states_of m
  pub few_states : states_of m ≤ state_limit
  pub some_class : 1 ≤ classes_of m
  pub few_classes : classes_of m ≤ class_limit
  pub classes : Below m classes_at marks_at (classes_of m)
  pub marks : Below m marks_at (marks_at + states_of m) 2
  pub marks_off : Below m (marks_at + states_of m) cells_at 1
  pub cells : Below m cells_at (cells_at + states_of m * classes_of m) (states_of m)
  pub cells_off : Below m (cells_at + states_of m * classes_of m) ways_at 1

-- "in two bytes", "high byte first"
pub record WayBeside (m : List ℕ) (q : ℕ) : Type 0 where
  pub way : ℕ
  pub right : Way (machine m) q way
  pub high : get_or m (ways_at + q * 2) 0 ≡ way / byte_values
  pub low : get_or m (ways_at + q * 2 + 1) 0 ≡ way % byte_values

-- "beside each state", "zero for unused states"
pub record SoundWays (m : List ℕ) : Type 0 where
  pub beside : (q : ℕ) → q < states_of m → WayBeside m q
  pub ways_off : Below m (ways_at + states_of m * 2) room_bytes 1

-- "A room whose numbers are wrong is not sound."
pub record Sound (m : List ℕ) : Type 0 where
  pub table : SoundTable m
  pub ways : SoundWays m

-- the bytes before the ways home are equal
abbrev pub SameTables : List ℕ → List ℕ → Type 0
SameTables a b = (i : ℕ) → i < ways_at → get_or a i 0 ≡ get_or b i 0

-- the bytes that count are equal
abbrev pub SameBytes : List ℕ → List ℕ → Type 0
SameBytes a b = (i : ℕ) → i < room_bytes → get_or a i 0 ≡ get_or b i 0
