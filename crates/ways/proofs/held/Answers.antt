use Prim.Native.Nat.{◌<◌}
use borrow.Author.Rules.{rules}
use Rattle.std.specs.Prelude.{Some}
use Rattle.scope.specs.Limits.{class_limit}
use Rattle.ways.specs.Held.{BlockFound}
use Rattle.ways.proofs.HeldClasses.{held_none, held_skip, held_more, held_all}
use Rattle.ways.proofs.held.Goals as goal
use Rattle.ways.proofs.held.Goals.{in-Some, in_default}

pub loop-class-init : goal.loop-class-init
loop-class-init c = (search rules, held_none _ _ (search rules))

pub loop-class-preserved : goal.loop-class-preserved
loop-class-preserved c =
    let v = c.loop-class.invariant in
    let few : c.loop-class.class < class_limit = search rules in
    elim c.match-find.branch [
      | in-Some w ↦
          let f : BlockFound c.args.room.now c.loop-class.class (Some w.in-Some.found) = rw (← c.bytes-bytes.ensures.bytes) (w.in-Some.ensures) in
          rw (w.at-is, w.list-is, w.count-is) (search rules, held_more v.1 few f.found.1)
      | in_default w ↦
          let f : BlockFound c.args.room.now c.loop-class.class c.find.result = rw (← c.bytes-bytes.ensures.bytes) c.find.ensures in
          rw (w.at-is, w.list-is, w.count-is) (v.0, held_skip v.1 (f.none w.in_default.is))
    ]

pub returns : goal.returns
returns c = held_all c.loop-class.invariant.1 c.bytes-bytes.ensures.sound (search rules)
