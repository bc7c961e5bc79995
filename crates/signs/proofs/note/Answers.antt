use Prim.Native.Nat.{◌<◌}
use mathlib.Core.Path.{refl}
use native.Mathlib.Omega.{arith}
use Rattle.scope.specs.Machines.Room.{classes_of}
use Rattle.signs.proofs.Noting.{noting_first, noting_set, noting_again}
use Rattle.signs.proofs.note.Goals as goal
use Rattle.signs.proofs.note.Goals.{else-y-last, then-y-last}

pub cell-requires : goal.cell-requires
cell-requires c = let s = c.head-k.ensures.sound in (c.requires.0, omega (arith, s.some_class))

pub loop-c-init : goal.loop-c-init
loop-c-init c = let s = c.head-k.ensures.sound in noting_first c.told-from (omega (arith, s.some_class)) (omega arith) (rw c.cell.ensures.0 refl)

pub loop-c-preserved : goal.loop-c-preserved
loop-c-preserved c =
    let v = c.loop-c.invariant in
    let e = c.cell-in-loop-c.ensures in
    let l : c.loop-c.c < classes_of c.args.room.now = omega arith in
    elim c.if-y-last.branch [
      | then-y-last w ↦ rw (w.from-is, w.last-is) (noting_set v l (omega arith) (rw e.0 refl))
      | else-y-last w ↦ rw (w.from-is, w.last-is) (noting_again v l (omega arith) (rw e.0 refl) w.if-y-last.false)
    ]
