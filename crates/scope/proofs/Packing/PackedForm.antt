-- The length of the packed form. Each field of n bits has n; the parts of a long enough room are whole.
--   bits_length, fields_length, part_length: of a field, of a list of fields, of a part of a room
--   form_bits_lem: of the form of a sound room, before filling
use Prim.Native.Nat.{ℕ, zero, suc, ◌+◌, ◌*◌, ◌≤◌}
use mathlib.Core.Path.{◌≡◌, refl, ap}
use mathlib.Core.List.{List, [], ◌∷◌}
use native.Mathlib.Nat.{mul-le-mul, mul-suc}
use native.Mathlib.Omega.{arith}
use lib.ListN.{length, take, drop, length-append, length-take, length-drop}
use Rattle.scope.specs.Limits.{byte_values, classes_at, marks_at, cells_at, room_bytes, state_limit, class_limit}
use Rattle.scope.specs.Machines.Room.{states_of, classes_of, SoundTable}
use Rattle.scope.specs.Packing.PackedForm.{bits, fields, form_bits}

pub bits_length : (n x : ℕ) → length (bits n x) ≡ n
unfolding bits
bits_length zero x = refl
bits_length (suc n) x = ap suc (bits_length n x)

pub fields_length : (n : ℕ) (l : List ℕ) → length (fields n l) ≡ n * length l
unfolding fields
fields_length n [] = omega arith
fields_length n (x ∷ l) = rw (length-append, bits_length, fields_length n l, mul-suc) (omega arith)

-- the bytes from `from`, where there are as many
pub part_length : (m : List ℕ) (from n : ℕ) → from + n ≤ length m → length (take n (drop from m)) ≡ n
part_length m from n h = simp (length-take, length-drop) (omega arith)

-- "That is 1,553 + n + 7·n·k bits before filling."
pub form_bits_lem : (m : List ℕ) → SoundTable m → length (form_bits m) ≡ 1553 + states_of m + 7 * (states_of m * classes_of m)
unfolding form_bits
form_bits_lem m s =
    let l : room_bytes ≤ length m = s.long in
    let few : states_of m * classes_of m ≤ state_limit * class_limit = mul-le-mul s.few_states s.few_classes in
    simp (
      length-append,
      fields_length,
      part_length m classes_at byte_values (omega arith),
      part_length m marks_at (states_of m) (omega (arith, s.few_states)),
      part_length m cells_at (states_of m * classes_of m) (omega arith),
    )
    (omega arith)
