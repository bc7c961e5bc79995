-- From the answers, taken apart, to what the lines are of.
--   compiling_done, compiling_refused: what compiling a side into an empty room answered
--   comparing_as: what comparing answered
use Prim.Native.Nat.{ℕ}
use mathlib.Core.Path.{◌≡◌, refl, sym}
use mathlib.Core.List.{List}
use lib.ListN.{take}
use Rattle.std.specs.Prelude.{Ok, Err}
use Rattle.scope.specs.Operations.Buffers.{Lent}
use Rattle.scope.specs.Operations.Compile.{Compiles, no_room, too_long, no_syntax, falls, too_deep, too_many, many_classes, many_sets, compiled}
use Rattle.scope.specs.Operations.Compare.{CompareLent, Compares}
use Rattle.scope.specs.Answers.{DONE}
use Rattle.scope.specs.declared.Machine.{Machine}
use Rattle.scope.specs.Machines.Room.{states_of, classes_of}
use Rattle.answers.specs.declared.CompileRefusal.{CompileRefusal}
use Rattle.answers.specs.Numbers.{compile_refusal_number, compile_refusal_place}
use Rattle.put_lines.specs.declared.sides.Refused.{Refused}
use Rattle.put_lines.specs.Printing.{side_of, outcome}
use Rattle.put_lines.proofs.Lining.{refused_number}
use Rattle.alike_report.specs.Report.{Compiling, compiling, Comparing, comparing}

-- ---- a side

module _ {text before room bytes bytes' words words' : List ℕ} where
  pub compiling_done : {machine : Machine} → Lent before bytes words → Compiles text before room bytes bytes' words words' DONE 0
      → (machine.states ≡ states_of room) × (machine.classes ≡ classes_of room) → Compiling text room (side_of (Ok machine))
  compiling_done l c (s, k) = compiling l c s k

  -- a refusal leaves the room as it was
  kept : {n p : ℕ} → Compiles text before room bytes bytes' words words' n p → (n ≡ DONE → ⊥) → room ≡ before
  kept (no_room l e u) h = e
  kept (too_long l k r) h = r.kept
  kept (no_syntax f s r) h = r.kept
  kept (falls f s t r) h = r.kept
  kept (too_deep f s o d r) h = r.kept
  kept (too_many f s o d p r) h = r.kept
  kept (many_classes f s k r) h = r.kept
  kept (many_sets f s k n r) h = r.kept
  kept (compiled f s k n c e t r) h = absurd (h refl)

  pub compiling_refused : (refused : Refused) (refusal : CompileRefusal)
      → (refused.number ≡ compile_refusal_number refusal) × (refused.place ≡ compile_refusal_place refusal) → Lent before bytes words
      → Compiles text before room bytes bytes' words words' (compile_refusal_number refusal) (compile_refusal_place refusal)
      → (states_of before ≡ 0) × (classes_of before ≡ 0) → Compiling text room (side_of (Err refused))
  compiling_refused refused refusal (n, p) l c (s, k) = let same = kept c (refused_number refusal) in compiling l compiles (rw same (sym s)) (rw same (sym k))
    where
      compiles : Compiles text before room bytes bytes' words words' refused.number refused.place
      compiles = rw (n, p) c

-- ---- the comparison

pub comparing_as :
    {left right before word bytes bytes' words words' : List ℕ} {number count rounds n : ℕ} → Compares left right before word bytes bytes' words words' number count rounds
    → n ≡ count → CompareLent left right before bytes words → Comparing left right (outcome number rounds (take n word))
comparing_as c e l = comparing l c (rw e refl)
