use mathlib.Core.Path.{refl}
use Rattle.leaves.proofs.ByteByByte.{byte_here}
use Rattle.byte_sets.specs.LeavesOf.{is_blank}
use Rattle.byte_sets.proofs.LeavesOf.{frame_told, blank_byte, other_byte, passed_none, passed_frame, passed_blank, leaf_here, leaf_none}
use Rattle.byte_sets.proofs.next_leaf.Goals as goal

pub loop-next-init : goal.loop-next-init
loop-next-init c = passed_none _

pub loop-next-preserved-then-is_frame : goal.loop-next-preserved-then-is_frame
loop-next-preserved-then-is_frame c =
    let h = c.loop-next-test.true in
    passed_frame c.loop-next.invariant h (frame_told (byte_here _ _ h) c.is_frame.ensures c.if-is_frame.true)

pub loop-next-preserved : goal.loop-next-preserved
loop-next-preserved c =
    let h = c.loop-next-test.true in
    let w = c.in-Some-eq101 in
    passed_blank c.loop-next.invariant h (frame_told (byte_here _ _ h) c.is_frame.ensures c.if-is_frame.false) w.ensures (blank_byte w.field-0-test)

pub returns-in_default : goal.returns-in_default
returns-in_default c =
    let h = c.loop-next-test.true in
    let f = frame_told (byte_here _ _ h) c.is_frame.ensures c.if-is_frame.false in
    (c.loop-next.invariant.on, h, leaf_here c.loop-next.invariant f c.in_default.ensures (other_byte c.in_default.field-0-test.1))

pub returns-in_default-2 : goal.returns-in_default-2
unfolding is_blank
returns-in_default-2 c =
    let h = c.loop-next-test.true in
    let f = frame_told (byte_here _ _ h) c.is_frame.ensures c.if-is_frame.false in
    (c.loop-next.invariant.on, h, leaf_here c.loop-next.invariant f (rw c.in_default.is at c.escaped.ensures) refl)

pub returns : goal.returns
returns c = leaf_none c.loop-next.invariant c.loop-next-test.false
