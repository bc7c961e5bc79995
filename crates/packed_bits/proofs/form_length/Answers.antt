-- The bits of a sound room's head, rounded up to whole bytes.
use Prim.Native.Nat.{◌/◌, ◌+◌}
use mathlib.Core.Path.{◌≡◌, ap, ◌∙◌}
use native.Mathlib.Omega.{arith}
use Rattle.packed_bits.proofs.PackedFields.{form_size}
use Rattle.packed_bits.proofs.form_length.Goals as goal

pub returns : goal.returns
returns c =
    let head = c.head.ensures in
    let up : c.div_ceil.result ≡ (c.form_bits.result + 7) / 8 = omega (arith, c.div_ceil.ensures) in
    up ∙ ap (λ x. (x + 7) / 8) (c.form_bits.ensures.0 ∙ rw (head.counts.0, head.counts.1)) ∙ form_size c.args.room.now head.sound
