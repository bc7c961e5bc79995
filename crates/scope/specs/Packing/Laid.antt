-- No rule of 01, but what the contracts of packing and unpacking cite: the form of a room, field by field, as a sequence of bits.
--   bit_of l j: the bit j of a list, 0 past its end; from b p: the bits of b from p on
--   Holds b p n x: n bits of b, from the bit p on, have the value x
--   classes_bit, marks_bit: where the classes and the marks begin, in bits
--   cells_bit m, end_bit m: where the cells of a room begin, and where its form ends
--   Laid b m: the bits b are the fields of the room m; Framed m: what is not in the fields is as in a sound room
use Rattle.std.specs.Prelude.{ℕ, ◌+◌, ◌-◌, ◌*◌, ◌≤◌, ◌<◌, ◌≡◌, List, get_or}
use Rattle.scope.specs.Limits.{byte_values, classes_at, marks_at, cells_at, ways_at}
use Rattle.scope.specs.Machines.Room.{states_of, classes_of, Below}
use Rattle.scope.specs.Packing.PackedForm.{state_bits, value}

abbrev pub bit_of : List ℕ → ℕ → ℕ
bit_of l j = get_or l j 0

abbrev pub from : (ℕ → ℕ) → ℕ → ℕ → ℕ
from b p j = b (p + j)

abbrev pub Holds : (ℕ → ℕ) → ℕ → ℕ → ℕ → Type 0
Holds b p n x = value n (from b p) ≡ x

-- after the form's number, n - 1 and k - 1
abbrev pub classes_bit : ℕ
classes_bit = 10 + state_bits

-- after a class for each byte value
abbrev pub marks_bit : ℕ
marks_bit = 1546 + state_bits

abbrev pub cells_bit : List ℕ → ℕ
cells_bit m = marks_bit + states_of m

abbrev pub end_bit : List ℕ → ℕ
end_bit m = cells_bit m + states_of m * classes_of m * state_bits

pub record Laid (b : ℕ → ℕ) (m : List ℕ) : Type 0 where
  pub bit : (j : ℕ) → b j < 2
  pub number : Holds b 0 4 1
  pub states : Holds b 4 state_bits (states_of m - 1)
  pub classes : Holds b (4 + state_bits) 6 (classes_of m - 1)
  pub class : (i : ℕ) → i < byte_values → Holds b (classes_bit + i * 6) 6 (get_or m (classes_at + i) 0)
  pub mark : (i : ℕ) → i < states_of m → Holds b (marks_bit + i * 1) 1 (get_or m (marks_at + i) 0)
  pub cell : (i : ℕ) → i < states_of m * classes_of m → Holds b (cells_bit m + i * state_bits) state_bits (get_or m (cells_at + i) 0)
  pub rest : (j : ℕ) → end_bit m ≤ j → b j ≡ 0

-- what soundness says of the bytes that are in no field
pub record Framed (m : List ℕ) : Type 0 where
  pub some_state : 1 ≤ states_of m
  pub some_class : 1 ≤ classes_of m
  pub marks_off : Below m (marks_at + states_of m) cells_at 1
  pub cells_off : Below m (cells_at + states_of m * classes_of m) ways_at 1
