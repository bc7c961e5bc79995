-- A field of at most eight bits ends within the byte behind the one it begins in.
use Prim.Native.Nat.{ℕ, ◌-◌, ◌/◌, ◌%◌}
use native.Mathlib.Omega.{arith}
use Rattle.scope.specs.Packing.Laid.{Holds}
use Rattle.take_packed.specs.FormImage.{form_bit}
use Rattle.packed_bits.proofs.PackedFields.{holds_lt}
use Rattle.take_packed.proofs.Bytes.{form_bit_lem, field_of}
use Rattle.take_packed.proofs.take.Goals as goal

pub returns : goal.returns
returns c =
    let a = c.args in
    let b : ℕ → ℕ = form_bit a.form.now in
    let x = c.byte_at in
    let y = c.byte_at-2 in
    let h : Holds b a.p a.width c.low.result =
    rw c.low.ensures
    (field_of b (a.p / 8) (a.p % 8) a.width (16 - a.p % 8 - a.width) x.result y.result a.p (form_bit_lem a.form.now) x.ensures.0 y.ensures.0 (omega arith) (omega arith)) in
    (h, holds_lt b a.p a.width c.low.result (form_bit_lem a.form.now) h)
