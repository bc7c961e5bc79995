use Prim.Native.Nat.{◌<◌}
use native.Mathlib.Omega.{arith}
use lib.ListN.{get_or}
use Rattle.two_rooms.specs.Side.{both_limit}
use Rattle.spelling.proofs.Climbing.{climb_first, climb_more, climb_done, climb_low, climb_up}
use Rattle.spelling.proofs.Tree.climb.Goals as goal
use Rattle.spelling.proofs.Tree.climb.Goals.{At-loop-x}

-- the part on the way and the round of its birth are small
low : (c : At-loop-x) → (c.loop-x.x < both_limit) × (get_or c.args.self.now.lineage.now.born c.loop-x.x 0 < both_limit)
low c = climb_low _ _ _ _ _ _ c.loop-x.invariant c.requires

pub loop-x-init : goal.loop-x-init
loop-x-init c = climb_first _ _ _ _ _

pub offset_bounds-self-x : goal.offset_bounds-self-x
offset_bounds-self-x c = omega (arith, low (goal.at.offset_bounds-self-x c).At-loop-x)

pub bounds-self-x : goal.bounds-self-x
bounds-self-x c = omega (arith, low (goal.at.bounds-self-x c).At-loop-x)

pub overflow_cast-self : goal.overflow_cast-self
overflow_cast-self c = omega (arith, low (goal.at.overflow_cast-self c).At-loop-x)

pub loop-x-smaller : goal.loop-x-smaller
loop-x-smaller c = climb_up _ _ _ _ _ _ c.loop-x.invariant c.requires c.loop-x-test.true

pub loop-x-preserved : goal.loop-x-preserved
loop-x-preserved c = climb_more _ _ _ _ _ c.loop-x.x c.loop-x.invariant c.loop-x-test.true

pub returns : goal.returns
returns c = climb_done _ _ _ _ _ c.loop-x.x c.loop-x.invariant c.loop-x-test.false
