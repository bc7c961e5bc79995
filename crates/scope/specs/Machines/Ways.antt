-- Ways home. 02, C-17: "beside each state .. the fewest bytes from there to acceptance, 65,535 if there is no way".
--   Home M q w: the string w leads from the state q to acceptance
--   Fewest M q d: some string of d bytes does, and none of fewer
--   Way M q d: d is the way home of the state q
use Rattle.std.specs.Prelude.{ℕ, ◌≤◌, ◌≡◌, true, List, length}
use Rattle.scope.specs.Limits.{no_way}
use Rattle.scope.specs.Bytes.{Bytes}
use Rattle.scope.specs.Machines.Machine.{Machine, run}

pub record Home (M : Machine) (q : ℕ) (w : List ℕ) : Type 0 where
  pub bytes : Bytes w
  pub accepted : M.accepts (run M q w) ≡ true

-- "the fewest bytes from there to acceptance"
pub record Fewest (M : Machine) (q d : ℕ) : Type 0 where
  pub word : List ℕ
  pub home : Home M q word
  pub long : length word ≡ d
  pub least : (w : List ℕ) → Home M q w → d ≤ length w

-- "65,535 if there is no way"
pub data Way (M : Machine) (q : ℕ) : ℕ → Type 0 where
  fewest : {d : ℕ} → Fewest M q d → Way M q d
  none : ((w : List ℕ) → Home M q w → ⊥) → Way M q no_way
