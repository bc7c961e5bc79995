-- The table that is written has the bytes of the plan; with the ways home it is the canonical room.
use mathlib.Core.Path.{◌∙◌}
use native.Mathlib.Omega.{arith}
use Rattle.scope.proofs.Operations.Buffers.{tail_within, tail_then}
use Rattle.room_writing.proofs.PlanImage.{image_smallest}
use Rattle.way_writing.proofs.WaysWritten.{written_canonical, written_equal}
use Rattle.smallest.proofs.smallest.Goals as goal

pub write_ways-requires : goal.write_ways-requires
write_ways-requires c = (image_smallest c.make_plan.ensures.0 c.requires.0 c.write.ensures).0

pub returns : goal.returns
returns c =
    let m = c.make_plan.ensures in
    let (s, k, e, t) = image_smallest m.0 c.requires.0 c.write.ensures in
    let w = c.write_ways.ensures in
    record {
      canonical = (written_canonical s w k, λ v g. e v g ∙ written_equal s w v g, tail_then (tail_within (omega arith) t) w.tail);
      tail_kept = m.1;
    }
