-- Whether the cells before the one at the index lie in one part; it and those after it are left of the rows.
use Prim.Native.Nat.{◌/◌, ◌^◌}
use mathlib.Core.Path.{◌≡◌}
use lib.ListN.{get_or}
use Rattle.buffers.specs.Stored.{Decides}
use Rattle.two_rooms.specs.Side.{both}
use Rattle.parting.specs.Named.{Led}
use Rattle.parting.specs.CellRows.{cell_values}
use Rattle.parting.proofs.Moves.agree_rows.Given as goal

abbrev pub invariant-loop-i : goal.invariant-loop-i
invariant-loop-i l = record {
  p : l.x ≡ get_or l.self.rows.now l.p 0 / cell_values ^ l._i;
  q : l.y ≡ get_or l.self.rows.now l.q 0 / cell_values ^ l._i;
  same : Decides l.same (Led (both l.self.pair.now.left l.self.pair.now.right).next l.self.least.now l.part l.p l.q 0 l._i);
}
