-- Live states: those from which there is a way home.
--   Live M q: some string leads from the state q of M to acceptance
use Rattle.std.specs.Prelude.{ℕ, List}
use Rattle.scope.specs.Machines.Machine.{Machine}
use Rattle.scope.specs.Machines.Ways.{Home}

pub record Live (M : Machine) (q : ℕ) : Type 0 where
  pub word : List ℕ
  pub home : Home M q word
