-- The invariant: whatever the part was a first part of, the part with the marks passed is one of it, too.
use Prim.Native.Nat.{◌-◌, ◌≤◌}
use mathlib.Core.Path.{◌≡◌}
use lib.ListN.{length}
use Rattle.factors.specs.Answer.{Fit, Carried}
use Rattle.factors.proofs.marks.Given as goal

abbrev pub invariant-loop-b : goal.invariant-loop-b
invariant-loop-b l =
    (l.initial.all.next ≤ l.all.next) × (length l.words ≡ length l.initial.words) × Fit l.text l.from l.words l.all
    × Carried l.text l.from l.initial.words l.initial.all l.words l.all

abbrev pub decreases-loop-b : goal.decreases-loop-b
decreases-loop-b l = length l.text - l.all.next
