-- The plan of a room.
--   Planned a p: p has the smallest machine of the room a, its states and classes numbered
--   SameOrder order n: each of the first n numbers stands for itself
use Rattle.std.specs.Prelude.{ℕ, ◌<◌, ◌≡◌, List, get_or}
use Rattle.scope.specs.Machines.Room.{SoundTable}
use Rattle.smallest_plan.specs.declared.Plan.{Plan}
use Rattle.smallest_plan.specs.Smallest.{Smallest}
use Rattle.smallest_plan.specs.Classed.{Classed}

pub record Planned (a : List ℕ) (p : Plan) : Type 0 where
  pub sound : SoundTable a
  pub smallest : Smallest a p.states
  pub classed : Classed a p.states p.classes

-- each of the first n numbers stands for itself
abbrev pub SameOrder : List ℕ → ℕ → Type 0
SameOrder order n = (q : ℕ) → q < n → get_or order q 0 ≡ q
