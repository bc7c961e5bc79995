-- The classes of the smallest machine: bytes that every state sends alike, numbered by their smallest byte. A column is a class of the room.
--   SameColumn a s u v: the columns u and v of the room a lead each of the numbered states to the same state
--   Classed a s c: the classes of the bytes, and a column for each
use Rattle.std.specs.Prelude.{ℕ, ◌≤◌, ◌<◌, ◌≡◌, List, get_or}
use Rattle.scope.specs.Limits.{byte_values, class_limit}
use Rattle.scope.specs.Machines.Room.{classes_of, class_of}
use Rattle.scope.specs.Machines.Canonical.{Arrival}
use Rattle.smallest_plan.specs.declared.States.{States}
use Rattle.smallest_plan.specs.declared.Classes.{Classes}
use Rattle.smallest_plan.specs.Smallest.{led}

abbrev pub SameColumn : List ℕ → States → ℕ → ℕ → Type 0
SameColumn a s u v = (q : ℕ) → q < s.count → led a s q u ≡ led a s q v

-- class has the class of each byte, leader the column of each class
pub record Classed (a : List ℕ) (s : States) (c : Classes) : Type 0 where
  pub few : c.count ≤ class_limit
  pub inside : (i : ℕ) → i < c.count → get_or c.leader i 0 < classes_of a
  pub below : (x : ℕ) → x < byte_values → get_or c.class x 0 < c.count
  pub alike : (x : ℕ) → x < byte_values → SameColumn a s (get_or c.leader (get_or c.class x 0) 0) (class_of a x)
  pub share : (x y : ℕ) → x < byte_values → y < byte_values → SameColumn a s (class_of a x) (class_of a y) → get_or c.class x 0 ≡ get_or c.class y 0
  pub holds : (i : ℕ) → i < c.count → (x : ℕ) × (x < byte_values) × (get_or c.class x 0 ≡ i) × (class_of a x ≡ get_or c.leader i 0)
  pub smallest : Arrival (λ x. get_or c.class x 0) 0 byte_values
