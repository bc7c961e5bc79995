-- No rule of 02, but how its ways home are found: from 65,535, or 0 at an accepting state, they sink until none moves.
--   Sinking m w i: each number of w is 65,535, or 0 at an accepting state, or above that of a state to which a byte leads; all accepting ones below i have 0
--   WaysLevel m w from: from the state `from` on, none is more than one above that of a state to which a byte leads
--   total w: the sum of the numbers
--   WaysSwept m w w' moved: a sweep made w' of w; they are less, or level if none moved
use Rattle.std.specs.Prelude.{ℕ, suc, ◌+◌, ◌≤◌, ◌<◌, ◌≡◌, Bool, true, false, List, [], ◌∷◌, length, get_or}
use Rattle.scope.specs.Limits.{byte_values, state_limit, no_way}
use Rattle.scope.specs.Machines.Room.{states_of, next_of, machine}

pub record Sinking (m w : List ℕ) (i : ℕ) : Type 0 where
  pub size : length w ≡ state_limit
  pub most : (q : ℕ) → q < states_of m → get_or w q 0 ≤ no_way
  pub here : (q : ℕ) → q < i → (machine m).accepts q ≡ true → get_or w q 0 ≡ 0
  pub some : (q : ℕ) → q < states_of m → (machine m).accepts q ≡ false → get_or w q 0 < no_way
      → (b : ℕ) × (b < byte_values) × (get_or w (next_of m q b) 0 < get_or w q 0)

abbrev pub WaysLevel : List ℕ → List ℕ → ℕ → Type 0
WaysLevel m w from = (q : ℕ) → q < states_of m → from ≤ q → (b : ℕ) → b < byte_values → get_or w q 0 ≤ suc (get_or w (next_of m q b) 0)

abbrev pub total : List ℕ → ℕ
total [] = 0
total (x ∷ w) = x + total w

pub record WaysSwept (m w w' : List ℕ) (moved : Bool) : Type 0 where
  pub sinking : Sinking m w' (states_of m)
  pub less : moved ≡ true → total w' < total w
  pub level : moved ≡ false → WaysLevel m w' 0
