-- The live states to which a state leads.
--   ClassMarked m c x e e' n: of the first n elements those of the bytes of the class c are x, and the others are kept; so are all behind them
--   LiveNext m q e: e marks the bytes that lead from the state q to a live one
use Rattle.std.specs.Prelude.{ℕ, ◌≤◌, ◌<◌, ◌≡◌, List, length, get_or}
use Rattle.scope.specs.Machines.Room.{class_of, next_of, machine}
use Rattle.matching.specs.Live.{Live}
use Rattle.telling.specs.Expected.{MarksOf}

pub record ClassMarked (m : List ℕ) (c x : ℕ) (e e' : List ℕ) (n : ℕ) : Type 0 where
  pub size : length e' ≡ length e
  pub here : (b : ℕ) → b < n → class_of m b ≡ c → get_or e' b 0 ≡ x
  pub there : (b : ℕ) → b < n → (class_of m b ≡ c → ⊥) → get_or e' b 0 ≡ get_or e b 0
  pub behind : (b : ℕ) → n ≤ b → get_or e' b 0 ≡ get_or e b 0

abbrev pub LiveNext : List ℕ → ℕ → List ℕ → Type 0
LiveNext m q = MarksOf (λ b. Live (machine m) (next_of m q b))
