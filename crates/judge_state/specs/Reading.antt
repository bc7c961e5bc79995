-- What the stages and the pieces of the code stand for: a state of the mode machine, and the notes beside it.
--   piece_of, state_of, standing x: the piece of the machine; the state of a stage, a piece and a count; the state of the code's record
--   Tallied n l t: of the list of places l, t has the first beyond n, if there is one
--   Keeps, NotesKept: the code's record keeps the notes
--   TallyMore: what a place adds to a tally
--   TallyBeyond: the first place beyond a limit, if there are so many
--   Takes s f x y: what a byte makes of a record: y is in the state s, and keeps what f makes of the notes of x
--   ReadAs v x y: so it is where the piece is read, and is the byte v
--   Bounded x y: how much the numbers grow
use Rattle.std.specs.Prelude.{ℕ, ◌+◌, ◌<◌, ◌≤◌, ◌≡◌, false, List, [], ◌∷◌, ◌++◌, length, Option, MatchOption}
use Rattle.scope.specs.Limits.{position_limit}
use Rattle.scope.specs.Text.Judge.{Beyond}
use Rattle.modes.specs.Modes.{Piece, atom, low, high, await, done, back, code, digit, State, stuck, at, is_stuck}
use Rattle.modes.specs.Notes.{Notes, read_as}
use Rattle.judge_state.specs.declared.Stage.{Stage}
use Rattle.judge_state.specs.declared.Stage.TheVariants.{Await, Done, Back, Code, Digit, Stuck}
use Rattle.judge_state.specs.declared.Piece as piece
use Rattle.judge_state.specs.declared.Piece.TheVariants.{Atom, Low, High}
use Rattle.judge_state.specs.declared.Tally.{Tally}
use Rattle.judge_state.specs.declared.Reading.{Reading}

abbrev pub piece_of : piece.Piece → Piece
piece_of Atom = atom
piece_of Low = low
piece_of High = high

abbrev pub state_of : Stage → Piece → ℕ → State
state_of Await p n = at (await p) n
state_of Done p n = at (done p) n
state_of Back p n = at (back p) n
state_of Code p n = at (code p) n
state_of Digit p n = at (digit p) n
state_of Stuck p n = stuck

abbrev pub standing : Reading → State
standing x = state_of x.stage (piece_of x.piece) x.deep

pub record Tallied (n : ℕ) (l : List ℕ) (t : Tally) : Type 0 where
  pub few : t.count ≤ n → length l ≡ t.count
  pub many : n < t.count → Beyond l n t.place

pub record Keeps (x : Notes) (half from least : ℕ) (falls opens firsts : Tally) : Type 0 where
  pub half_is : half ≡ x.half
  pub from_is : from ≡ x.sheet.from
  pub least_is : least ≡ x.sheet.least
  pub falls_kept : Tallied 0 x.sheet.falls falls
  pub opens_kept : Tallied 0 x.sheet.opens opens
  pub firsts_kept : Tallied position_limit x.sheet.firsts firsts

abbrev pub NotesKept : Notes → Reading → Type 0
NotesKept n x = Keeps n x.half x.from x.least x.falls x.opens x.firsts

-- the place i comes after those of a list
abbrev pub TallyMore : ℕ → Tally → ℕ → Tally → Type 0
TallyMore n t i u = (l : List ℕ) → Tallied n l t → Tallied n (l ++ i ∷ []) u

-- the first place beyond n, if there are more
abbrev pub TallyBeyond : ℕ → Tally → Option ℕ → Type 0
TallyBeyond n t r = (l : List ℕ) → Tallied n l t → MatchOption r (length l ≤ n) (λ i. Beyond l n i)

-- the notes that x keeps become those that y keeps
abbrev pub Goes : (Notes → Notes) → Reading → Reading → Type 0
Goes f x y = (n : Notes) → NotesKept n x → NotesKept (f n) y

-- y is in the state s, and unless that is stuck, keeps what f makes of the notes
pub record Takes (s : State) (f : Notes → Notes) (x y : Reading) : Type 0 where
  pub state : standing y ≡ s
  pub notes : is_stuck s ≡ false → Goes f x y

-- the piece is read, and is the byte v
abbrev pub ReadAs : ℕ → Reading → Reading → Type 0
ReadAs v x y = Takes (at (done (piece_of x.piece)) x.deep) (read_as (piece_of x.piece) v) x y

-- how much the numbers grow: one parenthesis more may be open, and a first digit stays one
pub record Bounded (x y : Reading) : Type 0 where
  pub deep_fits : y.deep ≤ x.deep + 1
  pub half_fits : x.half < 16 → y.half < 16
