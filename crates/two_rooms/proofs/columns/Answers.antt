use mathlib.Core.Path.{◌≡◌}
use native.Mathlib.Omega.{arith}
use lib.ListN.{length}
use Rattle.buffers.proofs.OneMore.{stored_none, stored_more, stored_written}
use Rattle.two_rooms.proofs.columns.Goals as goal

pub loop-j-init : goal.loop-j-init
loop-j-init c = rw c.requires.1 (stored_none _ _ _)

pub bounds-column-j : goal.bounds-column-j
bounds-column-j c = omega (arith, c.loop-j.invariant.size, c.requires.0)

pub loop-j-preserved : goal.loop-j-preserved
loop-j-preserved c = stored_more (omega (arith, c.requires.0)) (omega arith) c.class.ensures.0 c.loop-j.invariant

pub returns : goal.returns
returns c = let e : c.loop-j.j ≡ length c.args.least.now = omega arith in stored_written (rw e at c.loop-j.invariant)
