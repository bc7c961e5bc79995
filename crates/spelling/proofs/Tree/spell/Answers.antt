use native.Mathlib.Omega.{arith}
use Prim.Native.Nat.{◌<◌}
use Rattle.scope.specs.Limits.{byte_values}
use Rattle.spelling.proofs.Spelling.{untried, tried_more, writing_more, writing_done}
use Rattle.spelling.proofs.Tree.spell.Goals as goal
use Rattle.spelling.proofs.Tree.spell.Goals.{Else-at-long}

-- a kind is left to be tried
left : (c : Else-at-long) → c.loop-i.i < byte_values
left c = let k = c.requires.kinds.1.are in omega (arith, untried c.requires.spells k c.walk.invariant c.if-at-long.false c.loop-i.i c.loop-i.invariant, k.few)

pub bounds-kinds-i : goal.bounds-kinds-i
bounds-kinds-i c = left (goal.at.bounds-kinds-i c).Else-at-long

pub overflow_add-i : goal.overflow_add-i
overflow_add-i c = omega (arith, left (goal.at.overflow_add-i c).Else-at-long)

pub loop-i-smaller : goal.loop-i-smaller
loop-i-smaller c = omega (arith, left (goal.at.loop-i-smaller c).Else-at-long)

pub loop-i-preserved : goal.loop-i-preserved
loop-i-preserved c = tried_more c.requires.spells c.requires.kinds.1.are c.walk.invariant c.if-at-long.false c.loop-i.i c.loop-i.invariant
    c.step-y.ensures c.step-z.ensures c.climb.ensures c.climb-in-loop-i.ensures c.if-climb.false

pub walk-preserved : goal.walk-preserved
walk-preserved c = let w = c.walk.invariant in
    writing_more c.requires.spells c.requires.kinds.1.are w c.if-at-long.false c.loop-i.i c.loop-i.invariant
    c.step-y.ensures c.step-z.ensures c.climb.ensures c.climb-in-loop-i.ensures
    (omega (arith, w.within, c.if-at-long.false, c.requires.long_in_bounds)) c.if-climb.true

pub returns : goal.returns
returns c = writing_done c.requires.spells c.if-at-long.true c.walk.invariant
