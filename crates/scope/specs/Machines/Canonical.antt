-- The smallest machine's room. 01: "The smallest machine is canonical".
--   met f from x: how many numbers are in use before f x is read, where `from` were at the start
--   Arrival f from to: f 0 .. f (to - 1) number things on first arrival: each is in use already, or the next number
--   entry M x: the table in the order of reading, "row by row, bytes ascending"
--   CanonicalTable m: the table of the room is the canonical one
--   Canonical m: the room is canonical
use Rattle.std.specs.Prelude.{ℕ, zero, suc, ◌*◌, ◌/◌, ◌%◌, ◌≤◌, ◌<◌, max, ◌≡◌, List}
use Rattle.scope.specs.Limits.{byte_values}
use Rattle.scope.specs.Machines.Machine.{Machine, Same, Reached}
use Rattle.scope.specs.Machines.Room.{states_of, classes_of, class_of, next_of, machine, Sound}

unfoldable pub met : (ℕ → ℕ) → ℕ → ℕ → ℕ
met f from zero = from
met f from (suc x) = max (met f from x) (suc (f x))

abbrev pub Arrival : (ℕ → ℕ) → ℕ → ℕ → Type 0
Arrival f from to = (x : ℕ) → x < to → f x ≤ met f from x

abbrev pub entry : Machine → ℕ → ℕ
entry M x = M.next (x / byte_values) (x % byte_values)

pub record CanonicalTable (m : List ℕ) : Type 0 where
  -- "all states are reached"
  pub reached : (q : ℕ) → q < states_of m → Reached (machine m) q
  -- "no two accept the same strings"
  pub reduced : (p q : ℕ) → p < states_of m → q < states_of m → Same (machine m) p (machine m) q → p ≡ q
  -- "states are numbered on first arrival, from 0, row by row, bytes ascending"
  pub arrival : Arrival (entry (machine m)) 1 (states_of m * byte_values)
  -- "two bytes share a class exactly when every state sends them to the same state"
  pub alike : (b c : ℕ) → b < byte_values → c < byte_values → class_of m b ≡ class_of m c → (q : ℕ) → q < states_of m → next_of m q b ≡ next_of m q c
  pub share : (b c : ℕ) → b < byte_values → c < byte_values → ((q : ℕ) → q < states_of m → next_of m q b ≡ next_of m q c) → class_of m b ≡ class_of m c
  -- "each of the k classes holds a byte"
  pub holds : (c : ℕ) → c < classes_of m → (b : ℕ) × (b < byte_values) × (class_of m b ≡ c)
  -- "classes are numbered by their smallest byte"
  pub smallest : Arrival (class_of m) 0 byte_values

pub record Canonical (m : List ℕ) : Type 0 where
  -- "unused marks and cells are 0", and the rest of soundness
  pub sound : Sound m
  pub table : CanonicalTable m
