use mathlib.Core.Path.{refl}
use native.Mathlib.Omega.{arith}
use borrow.Author.Rules.{rules}
use Rattle.byte_sets.proofs.Filling.{filling_all, filling_some, filling_room, filling_more, filling_none}
use Rattle.byte_sets.proofs.fill.Goals as goal

pub loop-at-init : goal.loop-at-init
loop-at-init c = (refl, filling_all _)

pub single-from-requires-clause-some : goal.single-from-requires-clause-some
single-from-requires-clause-some c = let (on, inside, next) = c.in-Some.ensures in filling_some (c.loop-at.invariant.1 _ next) c.requires.0 inside

pub single-from-requires-clause-k_lt_position_limit : goal.single-from-requires-clause-k_lt_position_limit
single-from-requires-clause-k_lt_position_limit c =
    let (on, inside, next) = c.in-Some.ensures in (filling_room (c.loop-at.invariant.1 _ next) c.requires.0 inside, search rules)

pub overflow_add-k : goal.overflow_add-k
overflow_add-k c = let (on, inside, next) = c.in-Some.ensures in omega (arith, filling_room (c.loop-at.invariant.1 _ next) c.requires.0 inside)

pub loop-at-preserved : goal.loop-at-preserved
loop-at-preserved c = let (on, inside, next) = c.in-Some.ensures in (search rules, filling_more (c.loop-at.invariant.1 _ next) inside c.single-from.ensures)

pub returns : goal.returns
returns c = filling_none (c.loop-at.invariant.1 _ c.in_default.ensures) (omega arith)
