-- The packed form. 01: "Bit fields, most significant first, no gaps".
--   state_bits: how many bits the field of a state has
--   bits n x: the n lowest bits of x, most significant first
--   fields n l: a field of n bits for each number of l
--   value n f: the number whose n bits are f 0 .. f (n - 1), most significant first
--   form_bits m: the bits of the form of a room, before filling
--   form_length m, form_byte m i: how many bytes the form has, and the byte i of it
--   FormOf m f: f is the form of the room m
use Rattle.std.specs.Prelude.{ℕ, zero, suc, ◌+◌, ◌-◌, ◌*◌, ◌/◌, ◌%◌, ◌^◌, ◌<◌, ◌≡◌, List, [], ◌∷◌, ◌++◌, length, take, drop, get_or}
use Rattle.scope.specs.Limits.{byte_values, classes_at, marks_at, cells_at}
use Rattle.scope.specs.Machines.Room.{states_of, classes_of}

-- "n − 1 (7)", "cells (n·k × 7)"
abbrev pub state_bits : ℕ
state_bits = 7

unfoldable pub bits : ℕ → ℕ → List ℕ
bits zero x = []
bits (suc n) x = (x / 2 ^ n % 2) ∷ bits n x

unfoldable pub fields : ℕ → List ℕ → List ℕ
unfolding bits
fields n [] = []
fields n (x ∷ l) = bits n x ++ fields n l

unfoldable pub value : ℕ → (ℕ → ℕ) → ℕ
value zero f = 0
value (suc n) f = value n f * 2 + f n

-- "form number 1 (4 bits); n − 1 (7); k − 1 (6); the class of each byte value (256 × 6); accept marks (n × 1); cells (n·k × 7)"
unfoldable pub form_bits : List ℕ → List ℕ
unfolding bits fields
form_bits m =
    bits 4 1
    ++ (bits state_bits (states_of m - 1)
    ++ (bits 6 (classes_of m - 1)
    ++ (fields 6 (take byte_values (drop classes_at m))
    ++ (fields 1 (take (states_of m) (drop marks_at m))
    ++ fields state_bits (take (states_of m * classes_of m) (drop cells_at m))))))

unfoldable pub form_length : List ℕ → ℕ
unfolding form_bits
form_length m = (length (form_bits m) + 7) / 8

-- "zero bits to a whole byte": past the last bit `get_or` gives 0
unfoldable pub form_byte : List ℕ → ℕ → ℕ
unfolding form_bits value
form_byte m i = value 8 (λ j. get_or (form_bits m) (i * 8 + j) 0)

pub record FormOf (m f : List ℕ) : Type 0 where
  pub size : length f ≡ form_length m
  pub bytes : (i : ℕ) → i < form_length m → get_or f i 0 ≡ form_byte m i
