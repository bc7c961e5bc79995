-- The loop follows the mode machine: after i bytes the record stands in the machine's state and keeps its notes. So it stops where the machine gets stuck, and
-- at the end, after an atom with nothing open, the text has a tree, whose places are those that were noted.
--   Follows s i x: x is right after the first i bytes of s
--   follows_on: one byte more
--   stops: SYNTAX at the byte on which the machine gets stuck
--   lacks: SYNTAX at the end of the text, if that is not after an atom with nothing open
--   ends: what is judged at the end of a legal text
use Prim.Native.Nat.{ℕ, ◌+◌, ◌<◌}
use Rattle.std.specs.Prelude.{Result, Err}
use mathlib.Core.Path.{◌≡◌, refl, sym, ap, ◌∙◌}
use mathlib.Core.Bool.{false}
use mathlib.Core.List.{List}
use native.Mathlib.Numerals.{add-one}
use lib.ListN.{length, get_or}
use Rattle.scope.specs.Limits.{byte_values}
use Rattle.scope.specs.Text.Tree.{Tree}
use Rattle.scope.specs.Text.Judge.{Pattern}
use Rattle.scope.proofs.Counting.Lists.{any_default}
use Rattle.modes.specs.Modes.{Piece, at, is_stuck, after_atom, run_to}
use Rattle.modes.proofs.Places.{legal_exact, stuck_at, unfinished}
use Rattle.answers.specs.declared.Fault.{Fault}
use Rattle.judge_state.specs.declared.Stage.{Stage}
use Rattle.judge_state.specs.declared.Stage.TheVariants.{Await, Done, Back, Code, Digit, Stuck}
use Rattle.judge_state.specs.declared.Reading.{Reading}
use Rattle.judge.specs.Judges.{JudgesText, legal, syntax, range, depth, positions}
use Rattle.modes.specs.Notes.{notes_to}
use Rattle.judge.specs.Faults.{Finds, nothing, falling, deep, many, Faults}
use Rattle.judge_state.specs.Reading.{piece_of, state_of, standing, NotesKept}
use Rattle.judge_inside.specs.Steps.{Advances}
use Rattle.modes.proofs.Drives.{NotedAll, legal_notes}

pub record Follows (s : List ℕ) (i : ℕ) (x : Reading) : Type 0 where
  pub state : standing x ≡ run_to s i
  pub notes : NotesKept (notes_to s i) x

-- ---- a byte

-- in another stage than the last the machine is not stuck
free_stage : (k : Stage) (p : Piece) (n : ℕ) → (k ≡ Stuck → ⊥) → is_stuck (state_of k p n) ≡ false
free_stage Await p n f = refl
free_stage Done p n f = refl
free_stage Back p n f = refl
free_stage Code p n f = refl
free_stage Digit p n f = refl
free_stage Stuck p n f = absurd (f refl)

-- so a record in one of them is not
free : (x : Reading) → (x.stage ≡ Stuck → ⊥) → is_stuck (standing x) ≡ false
free x f = free_stage x.stage (piece_of x.piece) x.deep f

module _ (s : List ℕ) (i : ℕ) {x y : Reading} (h : i < length s) (f : Follows s i x) (t : Advances x (get_or s i 0) i y) where
  -- the next state
  state_on : standing y ≡ run_to s (i + 1)
  state_on = t.state ∙ rw (add-one, f.state, any_default s i 0 byte_values h) refl

  -- one byte more
  pub follows_on : (y.stage ≡ Stuck → ⊥) → Follows s (i + 1) y
  follows_on l = record { state = state_on; notes = rw add-one (rw (any_default s i 0 byte_values h, f.state) at (t.notes (ap is_stuck (sym t.state) ∙ free y l) (notes_to s i) f.notes)) }

  -- a byte on which the machine gets stuck
  pub stops : (x.stage ≡ Stuck → ⊥) → y.stage ≡ Stuck → JudgesText s (Err (Fault.Syntax i))
  stops l m = syntax (stuck_at s i h (ap is_stuck (sym f.state) ∙ free x l) (ap is_stuck (sym state_on) ∙ rw m refl))

-- ---- the end

-- what is judged of the places that were noted is judged of the tree
judges_by : (s : List ℕ) {t : Tree} {r : Result (Unit {0}) Fault} → Pattern s t → NotedAll s t → Finds (notes_to s (length s)).sheet r → JudgesText s r
judges_by s p n (nothing a b c) =
    legal (record { pattern = p; ordered = rw n.falls_noted at a; shallow = rw n.opens_noted at b; brief = rw n.firsts_noted at c })
judges_by s p n (falling a) = range p (rw n.falls_noted at a)
judges_by s p n (deep a b) = depth p (rw n.falls_noted at a) (rw n.opens_noted at b)
judges_by s p n (many a b c) = positions p (rw n.falls_noted at a) (rw n.opens_noted at b) (rw n.firsts_noted at c)

module _ (s : List ℕ) (i : ℕ) {x : Reading} (e : i ≡ length s) (f : Follows s i x) where
  -- the text ends elsewhere
  pub lacks : (x.stage ≡ Stuck → ⊥) → (standing x ≡ at after_atom 0 → ⊥) → JudgesText s (Err (Fault.Syntax (length s)))
  lacks l g = syntax {i = length s} (unfinished s (rw e at (ap is_stuck (sym f.state) ∙ free x l)) (λ d. g (f.state ∙ rw e d)))

  -- the text ends there, and has a tree
  pub ends : {r : Result (Unit {0}) Fault} → standing x ≡ at after_atom 0 → Faults x r → JudgesText s r
  ends a g =
      let d : run_to s (length s) ≡ at after_atom 0 = rw (← e) (sym f.state ∙ a) in
      let l = (legal_exact s).1 d in
      judges_by s l.reads (legal_notes s l.tree l.reads) (g _ (rw e at f.notes))
