-- The tree of parts is climbed to any earlier round: the part of a state after it is the first on the way up that was born by then.
--   Climbs part parent born q r: the tree is that of some machine, whose rounds go to r, and q one of its states
--   Climbed part parent born q r x: x begins the part of q after r rounds, whatever machine the tree is of
use Rattle.std.specs.Prelude.{ℕ, ◌≤◌, ◌<◌, List}
use Rattle.scope.specs.Machines.Machine.{Machine}
use Rattle.scope.specs.Machines.Rounds.{Together}
use Rattle.two_rooms.specs.Side.{both_limit}
use Rattle.parting.specs.Named.{LeastLike}
use Rattle.refinement.specs.Refined.{Refined}

pub record Climbs (part parent born : List ℕ) (q r : ℕ) : Type 0 where
  pub machine : Machine
  pub rounds : ℕ
  pub refined : Refined machine part parent born rounds
  pub few : machine.states ≤ both_limit
  pub is_state : q < machine.states
  pub past : r ≤ rounds

abbrev pub Climbed : List ℕ → List ℕ → List ℕ → ℕ → ℕ → ℕ → Type 0
Climbed part parent born q r x = (M : Machine) (k : ℕ) → Refined M part parent born k → q < M.states → r ≤ k → LeastLike (Together M r) q x
