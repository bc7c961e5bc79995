-- The states of the smallest machine of a room: parts of the room's states that no string tells apart, numbered on first arrival. order has a state of the room for each
-- number, into the number of each state of the room that is reached.
--   StatesIn a s: the numbers stand for states of a sound room
--   led a s q u: the number to which the column u leads from the number q
--   smaller a s: the machine of the numbered parts
--   Smallest a s: it is the smallest of the room's strings, and its states are numbered on first arrival
use Rattle.std.specs.Prelude.{ℕ, ◌*◌, ◌≤◌, ◌<◌, ◌≡◌, List, eqb, get_or}
use Rattle.scope.specs.Limits.{byte_values, state_limit}
use Rattle.scope.specs.Machines.Machine.{Machine, Same, Equal, Closed, Reached}
use Rattle.scope.specs.Machines.Room.{states_of, mark_of, cell_of, next_of, machine, Below, SoundTable}
use Rattle.scope.specs.Machines.Canonical.{Arrival, entry}
use Rattle.smallest_plan.specs.declared.States.{States}

pub record StatesIn (a : List ℕ) (s : States) : Type 0 where
  pub sound : SoundTable a
  pub few : s.count ≤ state_limit
  pub inside : Below s.order 0 s.count (states_of a)

abbrev pub led : List ℕ → States → ℕ → ℕ → ℕ
led a s q u = get_or s.into (cell_of a (get_or s.order q 0) u) 0

-- the state q does what the state order q of the room does
abbrev pub smaller : List ℕ → States → Machine
smaller a s = record { states = s.count; next = λ q x. get_or s.into (next_of a (get_or s.order q 0) x) 0; accepts = λ q. eqb (mark_of a (get_or s.order q 0)) 1 }

pub record Smallest (a : List ℕ) (s : States) : Type 0 where
  pub few : s.count ≤ states_of a
  pub inside : (q : ℕ) → q < s.count → get_or s.order q 0 < states_of a
  pub own : (q : ℕ) → q < s.count → get_or s.into (get_or s.order q 0) 0 ≡ q
  pub closed : Closed (smaller a s)
  pub same : (q : ℕ) → q < s.count → Same (smaller a s) q (machine a) (get_or s.order q 0)
  pub equal : Equal (smaller a s) (machine a)
  pub reached : (q : ℕ) → q < s.count → Reached (smaller a s) q
  pub reduced : (p q : ℕ) → p < s.count → q < s.count → Same (smaller a s) p (smaller a s) q → p ≡ q
  pub arrival : Arrival (entry (smaller a s)) 1 (s.count * byte_values)
