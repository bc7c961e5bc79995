-- Parts when nothing splits any more, with the tree of their births: the part of a state after any round is found by climbing to a part that was born by then.
--   Parent M part parent born x: the part that x lay in until its own was born: an older one, from which x was not told before
--   Birth M r part parent born x: when the part of x, which x begins, was born, and of which part
--   BirthTree M r part parent born: so for each part after r rounds
--   Refined M part parent born rounds: the parts, their tree and the number of rounds when nothing splits
--   PartsOf M part: the parts of M are the states that no string tells apart
--   RefinedAlone a column part kinds rounds: the states of one room when nothing splits: the columns of the kinds of its bytes, its parts, and its rounds
use Rattle.std.specs.Prelude.{ℕ, ◌-◌, ◌≤◌, ◌<◌, ◌≡◌, List, get_or}
use Rattle.scope.specs.Machines.Machine.{Machine, Same, Closed}
use Rattle.scope.specs.Machines.Room.{machine}
use Rattle.scope.specs.Machines.Rounds.{Together, Rounds}
use Rattle.two_rooms.specs.Kinds.{Kinds, Column}
use Rattle.parting.specs.Named.{Named}

pub record Parent (M : Machine) (part parent born : List ℕ) (x : ℕ) : Type 0 where
  pub below : get_or parent x 0 < x
  pub name : get_or part (get_or parent x 0) 0 ≡ get_or parent x 0
  pub older : get_or born (get_or parent x 0) 0 < get_or born x 0
  pub like : Together M (get_or born x 0 - 1) (get_or parent x 0) x

pub record Birth (M : Machine) (r : ℕ) (part parent born : List ℕ) (x : ℕ) : Type 0 where
  pub by : get_or born x 0 ≤ r
  pub fresh : (p : ℕ) → p < x → Together M (get_or born x 0) p x → ⊥
  pub up : 0 < get_or born x 0 → Parent M part parent born x

abbrev pub BirthTree : Machine → ℕ → List ℕ → List ℕ → List ℕ → Type 0
BirthTree M r part parent born = (x : ℕ) → x < M.states → get_or part x 0 ≡ x → Birth M r part parent born x

pub record Refined (M : Machine) (part parent born : List ℕ) (rounds : ℕ) : Type 0 where
  pub closed : Closed M
  pub named : Named (Together M rounds) part M.states
  pub tree : BirthTree M rounds part parent born
  pub last : Rounds M rounds

pub record PartsOf (M : Machine) (part : List ℕ) : Type 0 where
  pub low : (q : ℕ) → q < M.states → get_or part q 0 ≤ q
  pub inside : (q : ℕ) → q < M.states → get_or part q 0 < M.states
  pub name : (q : ℕ) → q < M.states → get_or part (get_or part q 0) 0 ≡ get_or part q 0
  pub same : (p q : ℕ) → p < M.states → q < M.states → get_or part p 0 ≡ get_or part q 0 → Same M p M q
  pub told : (p q : ℕ) → p < M.states → q < M.states → Same M p M q → get_or part p 0 ≡ get_or part q 0

pub record RefinedAlone (a column part : List ℕ) (kinds rounds : ℕ) : Type 0 where
  pub least : List ℕ
  pub bytes : Kinds a a least kinds
  pub columns : Column a least column kinds
  pub parts : PartsOf (machine a) part
  pub last : Rounds (machine a) rounds
