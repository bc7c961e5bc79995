use mathlib.Core.Path.{refl}
use borrow.Author.Rules.{rules}
use Rattle.leaves.proofs.ByteByByte.{byte_here}
use Rattle.leaves.proofs.ClassItems.{rest_all, rest_in, rest_item, rest_more, rest_none}
use Rattle.leaves.proofs.items.Goals as goal

pub loop-next-init : goal.loop-next-init
loop-next-init c = (refl, rest_all _ _ _)

pub bounds-text-next : goal.bounds-text-next
bounds-text-next c = rest_in c.requires.some c.loop-next.invariant.1

pub item-next-requires-clause-some : goal.item-next-requires-clause-some
item-next-requires-clause-some c =
    let f = c.loop-next.invariant.1 in rest_item c.requires.some f (byte_here _ _ (rest_in c.requires.some f)) c.loop-next-test.true

pub loop-next-preserved : goal.loop-next-preserved
loop-next-preserved c =
    let f = c.loop-next.invariant.1 in
    (search rules, rest_more c.requires.some f (byte_here _ _ (rest_in c.requires.some f)) c.loop-next-test.true c.item-next.ensures)

pub returns : goal.returns
returns c = let f = c.loop-next.invariant.1 in rest_none c.requires.some f (byte_here _ _ (rest_in c.requires.some f)) c.loop-next-test.false
