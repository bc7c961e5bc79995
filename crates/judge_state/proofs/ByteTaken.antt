-- The laws of what a byte makes of what is known; x is the record before the byte, y the one after it.
--   known: what a test said, of the set that it decides
--   takes_stuck, takes_same: no byte goes on; the state alone changes
--   moved, from_at: x in another stage, and where another piece began
--   read_falls, read_rises: a high end is read
use Prim.Native.Nat.{ℕ, ◌<◌, ◌≤◌}
use mathlib.Core.Path.{◌≡◌, sym, ap, ◌∙◌}
use mathlib.Core.Bool.{Bool, false≢true}
use Rattle.modes.specs.Modes.{State, stuck, is_stuck}
use Rattle.modes.specs.Notes.{Notes, read_as}
use Rattle.judge_state.specs.Reading.{piece_of, standing, Keeps, NotesKept, TallyMore, Takes}
use Rattle.judge_state.specs.declared.Stage.{Stage}
use Rattle.judge_state.specs.declared.Piece.{Piece}
use Rattle.judge_state.specs.declared.Piece.TheVariants.{High}
use Rattle.judge_state.specs.declared.Tally.{Tally}
use Rattle.judge_state.specs.declared.Reading.{Reading}
use Rattle.judge_state.proofs.Keeps.{kept_falls, kept_rises}

-- what a callee's bool says
pub known : {r t v : Bool} → r ≡ t → r ≡ v → t ≡ v
known e h = sym e ∙ h

-- no byte goes on
pub takes_stuck : {s : State} {f : Notes → Notes} {x y : Reading} → s ≡ stuck → standing y ≡ stuck → Takes s f x y
takes_stuck e h = record { state = h ∙ sym e; notes = λ d. absurd (false≢true (sym d ∙ ap is_stuck e)) }

-- the same notes are kept
abbrev pub SameNotes : Reading → Reading → Type 0
SameNotes x y = (n : Notes) → NotesKept n x → NotesKept n y

-- the state alone changes
pub takes_same : {s : State} {f : Notes → Notes} {x y : Reading} → standing y ≡ s → ((n : Notes) → f n ≡ n) → SameNotes x y → Takes s f x y
takes_same e d k = record { state = e; notes = λ _ n r. rw (d n) (k n r) }

-- x, in another stage of another piece, with another count of parentheses
abbrev pub moved : Stage → Piece → ℕ → Reading → Reading
moved stage piece deep x = record { stage = stage; piece = piece; half = x.half; least = x.least; deep = deep; from = x.from; falls = x.falls; opens = x.opens; firsts = x.firsts }

-- x, where what is being read began at i
abbrev pub from_at : ℕ → Reading → Reading
from_at i x = record { stage = x.stage; piece = x.piece; half = x.half; least = x.least; deep = x.deep; from = i; falls = x.falls; opens = x.opens; firsts = x.firsts }

-- ---- a high end is read

module _ (v : ℕ) (x : Reading) where
  -- a high end below the low one
  pub read_falls : {t : Tally} → x.piece ≡ High → v < x.least → TallyMore 0 x.falls x.from t → (n : Notes) → NotesKept n x
      → Keeps (read_as (piece_of x.piece) v n) x.half x.from x.least t x.opens x.firsts
  read_falls e h m n k = rw e (kept_falls k v h m)

  -- a high end that is not
  pub read_rises : x.piece ≡ High → x.least ≤ v → (n : Notes) → NotesKept n x → NotesKept (read_as (piece_of x.piece) v n) x
  read_rises e h n k = rw e (kept_rises k v h)
