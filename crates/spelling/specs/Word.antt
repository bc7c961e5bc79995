-- How the separating string is found: its length is the first round after which the two starts are not together.
--   Parted M low high p q: p and q are together after each round below low, and not after round high; so where low is high, it is the first such round
--   Apart part parent born p q rounds: the tree is that of some machine with so many rounds, and p and q are two of its states, in two parts
--   Between part parent born p q rounds low high: they are parted so, whatever machine the tree is of, and high is at most rounds
--   Spells a b part parent born d: the tree is that of the rooms a and b side by side, and d the first round after which their starts are not together
--   WordHas a b word word' d: the first d bytes of word' are the string that comparing gives, and the rest is that of word
use Rattle.std.specs.Prelude.{ℕ, ◌≤◌, ◌<◌, ◌≡◌, List, length, get_or}
use Rattle.scope.specs.Machines.Machine.{Machine}
use Rattle.scope.specs.Machines.Room.{states_of, machine, SoundTable}
use Rattle.scope.specs.Machines.Rounds.{Together}
use Rattle.scope.specs.Machines.Separate.{Separation}
use Rattle.scope.specs.Operations.Buffers.{Written}
use Rattle.two_rooms.specs.Side.{both_limit, both}
use Rattle.parting.specs.Named.{OnePart}
use Rattle.refinement.specs.Refined.{Refined}

pub record Parted (M : Machine) (low high p q : ℕ) : Type 0 where
  pub before : (k : ℕ) → k < low → Together M k p q
  pub apart : Together M high p q → ⊥

pub record Apart (part parent born : List ℕ) (p q rounds : ℕ) : Type 0 where
  pub machine : Machine
  pub refined : Refined machine part parent born rounds
  pub few : machine.states ≤ both_limit
  pub left : p < machine.states
  pub right : q < machine.states
  pub two : OnePart part p q → ⊥

pub record Between (part parent born : List ℕ) (p q rounds low high : ℕ) : Type 0 where
  pub within : high ≤ rounds
  pub parted : (M : Machine) → Refined M part parent born rounds → p < M.states → q < M.states → Parted M low high p q

pub record Spells (a b part parent born : List ℕ) (d : ℕ) : Type 0 where
  pub left : SoundTable a
  pub right : SoundTable b
  pub rounds : ℕ
  pub refined : Refined (both a b) part parent born rounds
  pub within : d ≤ rounds
  pub parted : Parted (both a b) d d 0 (states_of a)

pub record WordHas (a b word word' : List ℕ) (d : ℕ) : Type 0 where
  pub string : List ℕ
  pub separation : Separation (machine a) (machine b) string
  pub long : length string ≡ d
  pub written : Written d (λ i. get_or string i 0) word word'
