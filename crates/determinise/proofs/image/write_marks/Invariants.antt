-- The invariant: the marks of the sets below i are stored.
use Prim.Native.Nat.{◌-◌, ◌+◌}
use Rattle.scope.specs.Limits.{marks_at}
use Rattle.buffers.specs.Stored.{Stored}
use Rattle.sets.specs.Value.{set_value}
use Rattle.seats.specs.SeatLayout.{reached_set}
use Rattle.determinise.specs.Image.{mark_by}
use Rattle.determinise.proofs.image.write_marks.Given as goal

abbrev pub invariant-loop-i : goal.invariant-loop-i
invariant-loop-i l = Stored l.initial.image l.image marks_at (marks_at + l.i) (λ j. mark_by (set_value l.finals.words) (reached_set l.words (j - marks_at)))
