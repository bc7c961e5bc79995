-- Compiling. 01: "Compiling judges 1 to 8 and writes a canonical room."
--   Fits, Sized: neither ROOM nor LONG; nor RANGE, DEPTH, POSITIONS
--   CompileRefused: what a refusal leaves, but the ROOM judged first
--   Compiles: what compiling answers, and what every buffer holds then
-- A refusal is given exactly when its own condition holds and none before it: each constructor has the conditions that were passed.
-- Determined: a text has one tree, and one place of each kind (`SyntaxAt` is the longest, `Beyond` an equation); `Many` and `Few` exclude each other by the
-- pigeonhole; every byte follows from `≡`, `Written`, `TailKept`, and the room from `Canonical` with its strings.
-- Index: number, place.
use Rattle.std.specs.Prelude.{ℕ, ◌<◌, ◌≤◌, ◌≡◌, List, length}
use Rattle.scope.specs.Answers.{ROOM, LONG, SYNTAX, RANGE, DEPTH, POSITIONS, CLASSES, STATES, DONE}
use Rattle.scope.specs.Limits.{pattern_limit, room_bytes}
use Rattle.scope.specs.Text.Re.{Words}
use Rattle.scope.specs.Text.Tree.{Tree, expr}
use Rattle.scope.specs.Text.Judge.{Pattern, SyntaxAt, RangeAt, Ordered, DepthAt, Shallow, PositionAt, Brief}
use Rattle.scope.specs.Positions.Reached.{ManyClasses, FewClasses, ManySets, FewSets}
use Rattle.scope.specs.Machines.Machine.{Recognises}
use Rattle.scope.specs.Machines.Room.{machine}
use Rattle.scope.specs.Machines.Canonical.{Canonical}
use Rattle.scope.specs.Operations.Buffers.{TailKept, Lent, Cleared, Untouched}

-- neither ROOM nor "LONG | pattern over 1,024 bytes"
pub record Fits (text room bytes words : List ℕ) : Type 0 where
  pub lent : Lent room bytes words
  pub short : length text ≤ pattern_limit

-- the text has the tree t, with neither RANGE nor DEPTH nor POSITIONS
pub record Sized (text : List ℕ) (t : Tree) : Type 0 where
  pub pattern : Pattern text t
  pub ordered : Ordered t
  pub shallow : Shallow t
  pub brief : Brief t

-- "A refusal changes no machine room"
pub record CompileRefused (room room' bytes bytes' words words' : List ℕ) : Type 0 where
  pub kept : room' ≡ room
  pub cleared : Cleared bytes bytes' words words'

module _ (text room room' bytes bytes' words words' : List ℕ) where
  pub data Compiles : ℕ → ℕ → Type 0 where
    no_room : (Lent room bytes words → ⊥) → room' ≡ room → Untouched bytes bytes' words words' → Compiles ROOM 0
    too_long : Lent room bytes words → pattern_limit < length text → CompileRefused room room' bytes bytes' words words' → Compiles LONG 0
    no_syntax : {i : ℕ} → Fits text room bytes words → SyntaxAt text i → CompileRefused room room' bytes bytes' words words' → Compiles SYNTAX i
    falls : {i : ℕ} {t : Tree} → Fits text room bytes words → Pattern text t → RangeAt t i
        → CompileRefused room room' bytes bytes' words words' → Compiles RANGE i
    too_deep : {i : ℕ} {t : Tree} → Fits text room bytes words → Pattern text t → Ordered t → DepthAt t i
        → CompileRefused room room' bytes bytes' words words' → Compiles DEPTH i
    too_many : {i : ℕ} {t : Tree} → Fits text room bytes words → Pattern text t → Ordered t → Shallow t → PositionAt t i
        → CompileRefused room room' bytes bytes' words words' → Compiles POSITIONS i
    many_classes : {t : Tree} → Fits text room bytes words → Sized text t → ManyClasses (expr t)
        → CompileRefused room room' bytes bytes' words words' → Compiles CLASSES 0
    many_sets : {t : Tree} → Fits text room bytes words → Sized text t → FewClasses (expr t) → ManySets (expr t)
        → CompileRefused room room' bytes bytes' words words' → Compiles STATES 0
    compiled : {t : Tree} → Fits text room bytes words → Sized text t → FewClasses (expr t) → FewSets (expr t)
        → Canonical room' → Recognises (machine room') (Words (expr t)) → TailKept room_bytes room room' → Cleared bytes bytes' words words'
        → Compiles DONE 0
