-- Rooms side by side: the states of a, and after them those of b. What is looked at is the first n of these states: all, or those of a alone, whatever stands beside it.
--   both_limit: the most states that two rooms have
--   both a b: the two machines together
--   mark_in a b q: the mark of the state q
--   side a b n: of these states the first n
--   FirstStates a b n: no byte leads out of the first n
use Rattle.std.specs.Prelude.{ℕ, ◌+◌, ◌-◌, ◌≤◌, cond, List, ltb}
use Rattle.scope.specs.Limits.{state_limit}
use Rattle.scope.specs.Machines.Machine.{Machine, Closed}
use Rattle.scope.specs.Machines.Room.{states_of, mark_of, machine, SoundTable}
use Rattle.scope.specs.Machines.Rounds.{aside}

abbrev pub both_limit : ℕ
both_limit = state_limit + state_limit

abbrev pub both : List ℕ → List ℕ → Machine
both a b = aside (machine a) (machine b)

unfoldable pub mark_in : List ℕ → List ℕ → ℕ → ℕ
mark_in a b q = cond (ltb q (states_of a)) (mark_of a q) (mark_of b (q - states_of a))

abbrev pub side : List ℕ → List ℕ → ℕ → Machine
side a b n = record { states = n; next = (both a b).next; accepts = (both a b).accepts }

pub record FirstStates (a b : List ℕ) (n : ℕ) : Type 0 where
  pub left : SoundTable a
  pub right : SoundTable b
  pub few : n ≤ states_of a + states_of b
  pub closed : Closed (side a b n)
