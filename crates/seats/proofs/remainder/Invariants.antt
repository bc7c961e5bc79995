-- The invariant: r is the remainder of the words from i on.
use Prim.Native.Nat.{◌-◌}
use mathlib.Core.Path.{◌≡◌}
use Rattle.scope.specs.Limits.{set_words}
use Rattle.sets.specs.Value.{value_at}
use Rattle.seats.specs.Seats.{remainder_of}
use Rattle.seats.proofs.remainder.Given as goal

abbrev pub invariant-loop-i : goal.invariant-loop-i
invariant-loop-i l = l.r ≡ remainder_of (value_at l.s.words l.i (set_words - l.i))
