use Prim.Native.Nat.{◌+◌}
use mathlib.Core.Path.{◌≡◌}
use borrow.Author.Rules.{rules}
use Rattle.ways.specs.Held.{block}
use Rattle.ways.proofs.HeldClasses.{occurs_none, occurs_more, occurs_not}
use Rattle.ways.proofs.is_among.Goals as goal
use Rattle.ways.proofs.is_among.Goals.{else-room-i, then-room-i}

pub loop-i-init : goal.loop-i-init
loop-i-init c = occurs_none _ _ _

pub loop-i-preserved : goal.loop-i-preserved
loop-i-preserved c = elim c.if-room-i.branch [
  | then-room-i w ↦ rw w.found-is (occurs_more c.loop-i.invariant (search rules) w.if-room-i.true)
  | else-room-i w ↦ rw w.found-is (occurs_not c.loop-i.invariant w.if-room-i.false)
]

pub returns : goal.returns
returns c =
    let e : c.loop-i.i ≡ c.args.from + block = search rules in
    rw e at c.loop-i.invariant
