use mathlib.Core.Path.{◌≡◌}
use native.Mathlib.Omega.{arith}
use Rattle.scope.specs.Limits.{byte_values}
use Rattle.byte_classes.proofs.Classes.{group_below}
use Rattle.byte_classes.proofs.Masking.{masking_none, masking_new, masking_old}
use Rattle.byte_classes.proofs.masks.class_masks.Goals as goal
use Rattle.byte_classes.proofs.masks.class_masks.Goals.{else-class-n, then-class-n}

pub loop-from-init : goal.loop-from-init
loop-from-init c = (omega arith, masking_none _ _ _ _ c.told-masks)

pub store-requires : goal.store-requires
store-requires c = omega (arith, group_below c.requires.grouped.1 c.end_of-b.result c.end_of-b.ensures.byte, c.loop-from.invariant.1.masked.size)

pub overflow_add-n : goal.overflow_add-n
overflow_add-n c = omega (arith, group_below c.requires.grouped.1 c.end_of-b.result c.end_of-b.ensures.byte)

pub loop-from-preserved : goal.loop-from-preserved
loop-from-preserved c = (
  omega (arith, c.end_of-b.ensures.byte),
  elim c.if-class-n.branch [
    | then-class-n w ↦ rw (w.masks-is, w.n-is)
        (masking_new c.requires.runs_of c.requires.grouped.1 c.end_of-b.ensures c.loop-from.invariant.1 w.if-class-n.true w.byte_mask.ensures w.store.ensures)
    | else-class-n w ↦ rw (w.masks-is, w.n-is) (masking_old c.requires.runs_of c.requires.grouped.1 c.end_of-b.ensures c.loop-from.invariant.1 w.if-class-n.false)
  ],
)

pub returns : goal.returns
returns c = let e : c.loop-from.from ≡ byte_values = omega arith in rw e at c.loop-from.invariant.1.masked
