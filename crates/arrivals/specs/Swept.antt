-- The parts of a room's states, numbered on first arrival. A part is named by its least state, and the bytes are read by kinds: all bytes of a kind have one class in the
-- room, its column. What is read are the places of a table: x is that of the row x / kinds and the kind x % kinds, of so many kinds as there are columns.
--   Sweepable a part column: what is numbered: the parts of a sound room, over the columns
--   leads a part order q u: the part to which the state with the number q is led by the column u
--   placed a part column order x: the part to which the place x leads
--   number_of number t: the number of the part t, or state_limit if it has none
--   Back: a number has a part; Forth: a part has a number; Earlier: a place in a row before v leads to the number v
--   PlacesSwept a part column order number count e: the first e places are read, and count parts have a number
--   Numbers part number into n: into has the number of the part of each of the first n states, where it has one
--   Arrived a part column s: all is read
use Rattle.std.specs.Prelude.{ℕ, ◌*◌, ◌/◌, ◌%◌, ◌≤◌, ◌<◌, ◌≡◌, List, Option, Some, None, unwrap_or, length, get_or}
use Rattle.scope.specs.Limits.{byte_values, state_limit}
use Rattle.scope.specs.Machines.Room.{states_of, classes_of, cell_of, machine, Below, SoundTable}
use Rattle.buffers.specs.Numbered.{Numbered}
use Rattle.refinement.specs.Refined.{PartsOf}
use Rattle.smallest_plan.specs.declared.States.{States}

pub record Sweepable (a part column : List ℕ) : Type 0 where
  pub sound : SoundTable a
  pub parts : PartsOf (machine a) part
  pub few : length column ≤ byte_values
  pub columns : Below column 0 (length column) (classes_of a)

abbrev pub leads : List ℕ → List ℕ → List ℕ → ℕ → ℕ → ℕ
leads a part order q u = get_or part (cell_of a (get_or order q 0) u) 0

abbrev pub placed : List ℕ → List ℕ → List ℕ → List ℕ → ℕ → ℕ
placed a part column order x = leads a part order (x / length column) (get_or column (x % length column) 0)

abbrev pub number_of : List (Option ℕ) → ℕ → ℕ
number_of number t = unwrap_or (get_or number t None) state_limit

-- order has the part of each number, and number the number of each part that has one
pub record Back (a part order : List ℕ) (number : List (Option ℕ)) (v : ℕ) : Type 0 where
  pub inside : get_or order v 0 < states_of a
  pub name : get_or part (get_or order v 0) 0 ≡ get_or order v 0
  pub own : get_or number (get_or order v 0) None ≡ Some v

pub record Forth (order : List ℕ) (count t v : ℕ) : Type 0 where
  pub below : v < count
  pub back : get_or order v 0 ≡ t

pub record Earlier (a part column order : List ℕ) (v : ℕ) : Type 0 where
  pub place : ℕ
  pub row : place < v * length column
  pub here : placed a part column order place ≡ get_or order v 0

-- the part of the state 0 has the number 0 before any place is read
pub record PlacesSwept (a part column order : List ℕ) (number : List (Option ℕ)) (count e : ℕ) : Type 0 where
  pub order_size : length order ≡ state_limit
  pub number_size : length number ≡ state_limit
  pub start : get_or order 0 0 ≡ get_or part 0 0
  pub back : (v : ℕ) → v < count → Back a part order number v
  pub forth : (t v : ℕ) → t < states_of a → get_or number t None ≡ Some v → Forth order count t v
  pub numbered : Numbered (λ t u. t ≡ u) (placed a part column order) (λ x. number_of number (placed a part column order x)) (λ v. get_or order v 0) 1 count e
  pub above : (v : ℕ) → v < count → 0 < v → Earlier a part column order v

pub record Numbers (part : List ℕ) (number : List (Option ℕ)) (into : List ℕ) (n : ℕ) : Type 0 where
  pub size : length into ≡ state_limit
  pub inside : (t v : ℕ) → t < n → get_or number (get_or part t 0) None ≡ Some v → get_or into t 0 ≡ v

pub record Arrived (a part column : List ℕ) (s : States) : Type 0 where
  pub number : List (Option ℕ)
  pub swept : PlacesSwept a part column s.order number s.count (s.count * length column)
  pub numbers : Numbers part number s.into (states_of a)
