-- Whether each of the first q states has the right key.
use Prim.Native.Nat.{ℕ, ◌≤◌, ◌<◌}
use mathlib.Core.Path.{◌≡◌}
use mathlib.Core.List.{List}
use lib.Dec.{eqb}
use lib.ListN.{get_or}
use Rattle.scope.specs.Machines.Room.{mark_of}
use Rattle.buffers.specs.Stored.{Decides}
use Rattle.soundness.specs.WaysJudged.{key_of, right_key}
use Rattle.soundness.proofs.are_right.Given as goal

abbrev pub Right : List ℕ → List ℕ → ℕ → Type 0
Right room least q = key_of room q ≡ right_key (eqb (mark_of room q) 1) (get_or least q 0)

abbrev pub invariant-loop-q : goal.invariant-loop-q
invariant-loop-q l = Decides l.right ((j : ℕ) → j < l.q → 0 ≤ j → Right l.room l.least j)
