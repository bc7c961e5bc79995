use Prim.Native.Nat.{ℕ, ◌+◌, ◌^◌}
use mathlib.Core.Path.{sym, ap, ◌∙◌}
use mathlib.Core.Bool.{Bool}
use lib.Bits.{bit_or}
use Rattle.sets.specs.Layout.{held}
use Rattle.sets.proofs.HeldBits.{held_bit, held_not}
use Rattle.byte_classes.proofs.Unions.{joined_none, joined_with, joined_without}
use Rattle.byte_classes.proofs.masks.byte_mask.Goals as goal
use Rattle.byte_classes.proofs.masks.byte_mask.Goals.{else-bit-eq1, then-bit-eq1}

pub loop-p-init : goal.loop-p-init
loop-p-init c = c.none-mask.ensures ∙ sym (joined_none _)

pub loop-p-preserved : goal.loop-p-preserved
loop-p-preserved c = let l = c.loop-p in let m = c.args.sets.bytes.now in
    let in-set : ℕ → Bool = λ p. held m p c.args.b in
    elim c.if-bit-eq1.branch [
      | then-bit-eq1 w ↦ rw w.mask-is (w.with-mask.ensures ∙ ap (λ (n : ℕ). bit_or n (2 ^ (l.p + 1))) l.invariant
          ∙ sym (joined_with in-set (λ p. 2 ^ (p + 1)) l.p (held_bit m l.p c.args.b (sym c.bit.ensures.0 ∙ w.if-bit-eq1.true))))
      | else-bit-eq1 w ↦ rw w.mask-is (l.invariant
          ∙ sym (joined_without in-set (λ p. 2 ^ (p + 1)) l.p (held_not m l.p c.args.b (λ e. w.if-bit-eq1.false (c.bit.ensures.0 ∙ e)))))
    ]
