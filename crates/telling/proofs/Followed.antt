-- Which bytes keep a text completable: those that lead from its state to a live one. They are marked class by class.
--   ClassesMarked m q n e: the bytes of the classes below n are marked; classes_all: all of them
--   live_follows: the bytes that lead to a live state are those that keep the text completable
use Prim.Native.Nat.{ℕ, ◌<◌}
use mathlib.Core.List.{List, [], ◌∷◌, ◌++◌}
use mathlib.Core.Path.{◌≡◌}
use lib.ListN.{length, get_or}
use Rattle.scope.specs.Limits.{byte_values}
use Rattle.scope.specs.Machines.Machine.{run}
use Rattle.scope.specs.Machines.Room.{classes_of, class_of, cell_of, next_of, machine, SoundTable}
use Rattle.scope.proofs.Machines.Run.{run_append}
use Rattle.matching.specs.Live.{Live}
use Rattle.matching.proofs.Completable.{byte_class, live_prefix, prefix_live}
use Rattle.telling.specs.Expected.{Marked, CanFollow}
use Rattle.telling.specs.Classes.{LiveNext}
use Rattle.telling.proofs.Marks.{marks_moved}

-- those of the classes below n are marked
pub record ClassesMarked (m : List ℕ) (q n : ℕ) (e : List ℕ) : Type 0 where
  pub size : length e ≡ byte_values
  pub marks : (b : ℕ) → b < byte_values → class_of m b < n → Marked (Live (machine m) (cell_of m q (class_of m b))) (get_or e b 0)

-- of all of them
pub classes_all : {m e : List ℕ} {q n : ℕ} → SoundTable m → n ≡ classes_of m → ClassesMarked m q n e → LiveNext m q e
unfolding next_of
classes_all s z a = record { size = a.size; marks = λ b h. a.marks b h (rw z (byte_class s b h)) }

-- live after a byte, completable with it
pub live_follows : (m w : List ℕ) {q : ℕ} {e : List ℕ} → q ≡ run (machine m) 0 w → LiveNext m q e → CanFollow (machine m) w e
live_follows m w z l = marks_moved (λ b h. let step = run_append (machine m) 0 w (b ∷ []) in (
  λ x. live_prefix (machine m) (w ++ (b ∷ [])) (rw (step, ← z) x),
  λ x. rw (step, ← z) at (prefix_live (machine m) (w ++ (b ∷ [])) x),
)) l
