-- The invariant: the runs that end before a word are split (`Splitting`), and in the inner loop those of its ends that are not in `rest` (`SplittingWord`). The inner loop
-- says it as what is carried over from where it began.
use Prim.Native.Nat.{ℕ}
use mathlib.Core.List.{List}
use Rattle.byte_classes.proofs.Classes.{Splitting, SplittingWord}
use Rattle.byte_classes.proofs.group.split.Given as goal

abbrev pub invariant-loop-rest : goal.invariant-loop-rest
invariant-loop-rest l =
    (old : List ℕ) → Splitting l.bytes l.p l.ends.words old l.initial.names l.initial.map l.initial.k l.w
    → SplittingWord l.bytes l.p l.ends.words old l.names l.map l.k l.w l.rest

abbrev pub decreases-loop-rest : goal.decreases-loop-rest
decreases-loop-rest l = l.rest

abbrev pub invariant-loop-w : goal.invariant-loop-w
invariant-loop-w l = Splitting l.bytes l.p l.ends.words l.initial.map l.names l.map l.k l.w
