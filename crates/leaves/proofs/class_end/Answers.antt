use native.Mathlib.Omega.{arith}
use Rattle.leaves.proofs.ByteByByte.{byte_here}
use Rattle.leaves.proofs.ClassEnd.{class_all, class_inside, class_one, class_two, class_end}
use Rattle.leaves.proofs.class_end.Goals as goal

pub loop-next-init : goal.loop-next-init
loop-next-init c = class_all _

pub bounds-text-next : goal.bounds-text-next
bounds-text-next c = class_inside c.requires c.loop-next.invariant

pub returns-in-93 : goal.returns-in-93
returns-in-93 c = let f = c.loop-next.invariant in class_end f (byte_here _ _ (class_inside c.requires f)) c.requires c.in-93.is

pub loop-next-preserved-in-92 : goal.loop-next-preserved-in-92
loop-next-preserved-in-92 c = let f = c.loop-next.invariant in class_two f (byte_here _ _ (class_inside c.requires f)) c.in-92.is

pub loop-next-preserved : goal.loop-next-preserved
loop-next-preserved c = let f = c.loop-next.invariant in class_one f (byte_here _ _ (class_inside c.requires f)) (λ e. omega arith) (λ e. omega arith)

pub overflow_add-next-in_default : goal.overflow_add-next-in_default
overflow_add-next-in_default c = omega (arith, class_inside c.requires c.loop-next.invariant, c.requires.short)

pub loop-next-smaller : goal.loop-next-smaller
loop-next-smaller c = omega (arith, class_inside c.requires c.loop-next.invariant)
