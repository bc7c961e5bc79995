-- Kinds of bytes whose columns every state sends alike, merged into classes. A kind is known by its column.
--   FirstWith P k r: r is the first below k with P, if there is one
--   Distinct column kinds: no two kinds have one column
--   Merged a s column sort leader k e: the k classes of the first e kinds, numbered on first arrival
--   ColumnMap a sort class: each byte has the class of its column in the room a
--   MergedClasses a s column c: the classes of the kinds, and with them those of the bytes
use Rattle.std.specs.Prelude.{ℕ, ◌<◌, ◌≡◌, List, Option, length, get_or}
use Rattle.std.specs.Option.{MatchOption}
use Rattle.scope.specs.Limits.{byte_values}
use Rattle.scope.specs.Machines.Room.{class_of}
use Rattle.buffers.specs.Numbered.{Numbered}
use Rattle.smallest_plan.specs.declared.States.{States}
use Rattle.smallest_plan.specs.declared.Classes.{Classes}
use Rattle.smallest_plan.specs.Classed.{SameColumn}

abbrev pub FirstWith : (ℕ → Type 0) → ℕ → Option ℕ → Type 0
FirstWith P k r = MatchOption r ((j : ℕ) → j < k → P j → ⊥) (λ i. (i < k) × P i × ((j : ℕ) → j < i → P j → ⊥))

abbrev pub Distinct : List ℕ → ℕ → Type 0
Distinct column kinds = (i j : ℕ) → j < kinds → i < j → get_or column i 0 ≡ get_or column j 0 → ⊥

-- sort has the class of the column of each of the first e kinds, leader the column of the first kind of each of the k classes
pub record Merged (a : List ℕ) (s : States) (column sort leader : List ℕ) (k e : ℕ) : Type 0 where
  pub sort_size : length sort ≡ byte_values
  pub leader_size : length leader ≡ byte_values
  pub numbered : Numbered (SameColumn a s) (λ j. get_or column j 0) (λ j. get_or sort (get_or column j 0) 0) (λ c. get_or leader c 0) 0 k e

-- class has the class of the column of each byte
abbrev pub ColumnMap : List ℕ → List ℕ → List ℕ → Type 0
ColumnMap a sort class = (length class ≡ byte_values) × ((x : ℕ) → x < byte_values → get_or class x 0 ≡ get_or sort (class_of a x) 0)

pub record MergedClasses (a : List ℕ) (s : States) (column : List ℕ) (c : Classes) : Type 0 where
  pub sort : List ℕ
  pub kinds : Merged a s column sort c.leader c.count (length column)
  pub bytes : ColumnMap a sort c.class
