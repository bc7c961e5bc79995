-- The reached sets in order of arrival, and the cells of the image that lead from one to the next. The functions are not given the expression: their
-- contracts speak of every expression whose sets the buffers hold.
--   follow_of w s p: what p adds to the union of the follow sets of s, by the words w
--   WordAnswer w i x u r: r is the union u, with what the word number i of a set adds, whose bits are x
--   follows e s: the union of the follow sets of s
--   MasksOf e k mask: each of the k masks is that of some byte
--   cell_at o i: the cell number i of an image, by rows
--   target e k mask set i: the set to which the cell number i leads: what the follow sets of its row have in common with the mask of its class
--   ReachedRows e k mask set cell n filled: n reached sets, {0} first; the cells below `filled` lead where they should, and number the other sets on their first arrival
--   GuessesFor w g r: there is a guess for each set of an answer, if they are not too many
--   RowFits o w m k q n: the buffers are long enough for the row q of k classes where n sets are reached
--   RowStart e o w m k q n u: the sets and cells before the row q, and the union for it
--   SetsOf e w m k: the words hold the follow sets of e, and m the masks of its classes
--   RowAnswer, RowsAnswer: what one row, and all rows, answer
use Rattle.std.specs.Prelude.{ℕ, ◌+◌, ◌*◌, ◌/◌, ◌%◌, ◌<◌, ◌≤◌, ◌≡◌, Option, Some, None, List, length, get_or}
use Rattle.std.specs.Int.Bits.{bit_and}
use Rattle.scope.specs.Limits.{byte_values, class_limit, state_limit, position_limit, cells_at, ways_at, room_bytes, set_words}
use Rattle.scope.specs.Text.Re.{Re, size}
use Rattle.scope.specs.Positions.Bits.{has, given, joined, holders, after_position}
use Rattle.scope.specs.Positions.Reached.{ReachedSet, ManySets}
use Rattle.buffers.specs.Numbered.{Numbered}
use Rattle.sets.specs.Value.{set_at}
use Rattle.sets.specs.Layout.{sets_at}
use Rattle.seats.specs.SeatLayout.{reached_set, KeptOutside}
use Rattle.seats.specs.Seats.{guess_count, Guesses}

abbrev pub follow_of : List ℕ → ℕ → ℕ → ℕ
follow_of w s p = given (has s p) (set_at w p)

-- for every set whose bits in that word are those of x
abbrev pub WordAnswer : List ℕ → ℕ → ℕ → ℕ → ℕ → Type 0
WordAnswer w i x u r = (s : ℕ) → ((j : ℕ) → j < 64 → has s (64 * i + j) ≡ has x j) → u ≡ joined (follow_of w s) (64 * i)
    → r ≡ joined (follow_of w s) (64 * i + 64)

abbrev pub follows : Re → ℕ → ℕ
follows e s = joined (λ p. given (has s p) (after_position e p)) (size e + 1)

abbrev pub MasksOf : Re → ℕ → (ℕ → ℕ) → Type 0
MasksOf e k mask = (c : ℕ) → c < k → (b : ℕ) × (b < byte_values) × (mask c ≡ holders e 0 b)

abbrev pub cell_at : List ℕ → ℕ → ℕ
cell_at o i = get_or o (cells_at + i) 0

abbrev pub target : Re → ℕ → (ℕ → ℕ) → (ℕ → ℕ) → ℕ → ℕ
target e k mask set i = bit_and (follows e (set (i / k))) (mask (i % k))

abbrev pub SameSet : ℕ → ℕ → Type 0
SameSet s t = s ≡ t

pub record ReachedRows (e : Re) (k : ℕ) (mask set cell : ℕ → ℕ) (n filled : ℕ) : Type 0 where
  pub begins : set 0 ≡ 1
  pub few : n ≤ state_limit
  pub reached : (i : ℕ) → i < n → ReachedSet e (set i)
  pub within : filled ≤ n * k
  pub numbered : Numbered SameSet (target e k mask set) cell set 1 n filled

abbrev pub GuessesFor : List ℕ → List (Option ℕ) → Option ℕ → Type 0
GuessesFor w g (Some n) = Guesses w g n
GuessesFor w g None = length g ≡ guess_count

pub record RowFits (o w m : List ℕ) (k q n : ℕ) : Type 0 where
  pub image : room_bytes ≤ length o
  pub words : (sets_at + state_limit) * set_words ≤ length w
  pub masks : class_limit * set_words ≤ length m
  pub classes : k ≤ class_limit
  pub row : q < n
  pub states : n ≤ state_limit

pub record RowStart (e : Re) (o w m : List ℕ) (k q n u : ℕ) : Type 0 where
  pub union : u ≡ follows e (reached_set w q)
  pub masks : MasksOf e k (set_at m)
  pub rows : ReachedRows e k (set_at m) (reached_set w) (cell_at o) n (q * k)

-- the sets and cells with those of the row, or too many sets
abbrev pub RowCase : List ℕ → List ℕ → List ℕ → ℕ → ℕ → ℕ → ℕ → List ℕ → List ℕ → Option ℕ → Type 0
RowCase o w m k q n u o' w' (Some n') = (n ≤ n') × (n' ≤ state_limit) × ((e : Re) → RowStart e o w m k q n u → ReachedRows e k (set_at m) (reached_set w') (cell_at o') n' (q * k + k))
RowCase o w m k q n u o' w' None = (e : Re) → RowStart e o w m k q n u → ManySets e

pub record RowAnswer (o w m : List ℕ) (k q n u : ℕ) (o' w' : List ℕ) (r : Option ℕ) : Type 0 where
  pub image : KeptOutside o o' (cells_at + q * k) (cells_at + q * k + k)
  pub words : KeptOutside w w' ((sets_at + n) * set_words) ((sets_at + state_limit) * set_words)
  pub rows : RowCase o w m k q n u o' w' r

-- the words hold the follow sets of e, and m the masks of its classes
pub record SetsOf (e : Re) (w m : List ℕ) (k : ℕ) : Type 0 where
  pub small : size e ≤ position_limit
  pub follow : (p : ℕ) → p ≤ size e → set_at w p ≡ after_position e p
  pub masks : MasksOf e k (set_at m)

-- all sets and cells, or too many sets
abbrev pub RowsCase : List ℕ → List ℕ → List ℕ → ℕ → List ℕ → List ℕ → Option ℕ → Type 0
RowsCase o w m k o' w' (Some n) = (n ≤ state_limit) × KeptOutside o o' cells_at (cells_at + n * k) × ((e : Re) → SetsOf e w m k → ReachedRows e k (set_at m) (reached_set w') (cell_at o') n (n * k))
RowsCase o w m k o' w' None = (e : Re) → SetsOf e w m k → ManySets e

pub record RowsAnswer (o w m : List ℕ) (k : ℕ) (o' w' : List ℕ) (r : Option ℕ) : Type 0 where
  pub image : KeptOutside o o' cells_at ways_at
  pub words : KeptOutside w w' ((sets_at + 1) * set_words) ((sets_at + state_limit) * set_words)
  pub rows : RowsCase o w m k o' w' r
