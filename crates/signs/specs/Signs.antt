-- Signs: a state has one of 64, by its number. A word of signs tells of many states at once, and never of too few: a state whose sign is not in it is none of them.
--   signs: how many there are
--   Gap s q r: from q up to r there is no state whose sign is in s
--   Sources next n from: from has, with each state to which a byte leads a state below n, the sign of that one
--   Among s t: t has every sign that s has
--   CellsNoted room base q s from from' n: from' has besides the signs of s, with each state to which one of the first n classes leads the state q of the room, whose
--     states stand from base on
--   Steady next part n s: two states of one part agree if the sign of neither is in s
--   Stayed old new from n s: if one of the signs that from has with a state is not in s, the state has the part that it had
--   Seen part touched seen q: seen has what touched has, and everything if a state below q that begins a part is touched
--   Calm part touched x: if x begins no part, neither it nor the state that begins its part is touched
use Rattle.std.specs.Prelude.{ℕ, ◌+◌, ◌%◌, ◌≤◌, ◌<◌, ◌≡◌, true, false, List, get_or}
use Rattle.scope.specs.Positions.Bits.{has}
use Rattle.scope.specs.Limits.{byte_values}
use Rattle.scope.specs.Machines.Room.{cell_of}
use Rattle.parting.specs.Named.{OnePart, Agree}

abbrev pub signs : ℕ
signs = 64

abbrev pub Gap : ℕ → ℕ → ℕ → Type 0
Gap s q r = (x : ℕ) → x < r → q ≤ x → has s (x % signs) ≡ false

abbrev pub Sources : (ℕ → ℕ → ℕ) → ℕ → List ℕ → Type 0
Sources next n from = (q x : ℕ) → q < n → x < byte_values → has (get_or from (next q x) 0) (q % signs) ≡ true

abbrev pub Among : ℕ → ℕ → Type 0
Among s t = (k : ℕ) → has s k ≡ true → has t k ≡ true

pub record CellsNoted (room : List ℕ) (base q s : ℕ) (from from' : List ℕ) (n : ℕ) : Type 0 where
  pub kept : (y : ℕ) → Among (get_or from y 0) (get_or from' y 0)
  pub here : (c : ℕ) → c < n → Among s (get_or from' (base + cell_of room q c) 0)

pub record Steady (next : ℕ → ℕ → ℕ) (part : List ℕ) (n s : ℕ) : Type 0 where
  pub agree : (p q : ℕ) → p < n → q < n → OnePart part p q → has s (p % signs) ≡ false → has s (q % signs) ≡ false → Agree next part p q

pub record Stayed (old new from : List ℕ) (n s : ℕ) : Type 0 where
  pub part : (q k : ℕ) → q < n → has (get_or from q 0) k ≡ true → has s k ≡ false → get_or new q 0 ≡ get_or old q 0

pub record Seen (part : List ℕ) (touched seen q : ℕ) : Type 0 where
  pub unseen : (k : ℕ) → k < signs → has seen k ≡ false → (has touched k ≡ false) × ((h : ℕ) → h < q → get_or part h 0 ≡ h → has touched (h % signs) ≡ false)

abbrev pub Calm : List ℕ → ℕ → ℕ → Type 0
Calm part touched x = get_or part x 0 < x → (has touched (x % signs) ≡ false) × (has touched (get_or part x 0 % signs) ≡ false)
