-- The invariant: the positions before p are linked.
use Prim.Native.Nat.{◌-◌}
use mathlib.Core.Bool.{true}
use mathlib.Core.Path.{◌≡◌}
use lib.ListN.{length}
use Rattle.fragments.specs.Shapes.{Linked}
use Rattle.fragments.proofs.link.Given as goal

abbrev pub invariant-loop-p : goal.invariant-loop-p
invariant-loop-p l = (length l.words ≡ length l.initial.words) × Linked true l.fn.lasts.after (l.p - 1) l.firsts.after l.firsts.upto l.initial.words l.words
