-- The bits of a form: a sequence b of bits, 0 past its end.
--   room_bit m: the bits of the form of the room m
--   bits_of n k: how many bits the form of a room with n states and k classes has, before filling
--   FieldsFrom b p w xs n: from the bit p on, b has a field of w bits for each of the first n of xs
--   Narrow w xs: each of xs has w bits at most
--   Ahead b p w m start n: from the bit p on, b has n fields of w bits, for the bytes of m from `start` on
use Rattle.std.specs.Prelude.{ℕ, ◌+◌, ◌*◌, ◌^◌, ◌<◌, List, length, get_or}
use Rattle.scope.specs.Packing.PackedForm.{state_bits, form_bits}
use Rattle.scope.specs.Packing.Laid.{bit_of, Holds, marks_bit}

abbrev pub room_bit : List ℕ → ℕ → ℕ
room_bit m = bit_of (form_bits m)

-- "That is 1,553 + n + 7·n·k bits before filling."
abbrev pub bits_of : ℕ → ℕ → ℕ
bits_of n k = marks_bit + n + n * k * state_bits

abbrev pub FieldsFrom : (ℕ → ℕ) → ℕ → ℕ → List ℕ → ℕ → Type 0
FieldsFrom b p w xs n = (i : ℕ) → i < n → Holds b (p + i * w) w (get_or xs i 0)

abbrev pub Narrow : ℕ → List ℕ → Type 0
Narrow w xs = (i : ℕ) → i < length xs → get_or xs i 0 < 2 ^ w

abbrev pub Ahead : (ℕ → ℕ) → ℕ → ℕ → List ℕ → ℕ → ℕ → Type 0
Ahead b p w m start n = (i : ℕ) → i < n → Holds b (p + i * w) w (get_or m (start + i) 0)
