-- Each test is one that all bytes with an image pass; past the last byte all bits are 0, so the filling is the last thing to test.
use Prim.Native.Nat.{◌+◌, ◌/◌}
use mathlib.Core.Path.{◌≡◌, sym, ◌∙◌}
use native.Mathlib.Omega.{arith}
use borrow.Author.Tests.{eqb-true}
use Rattle.take_packed.proofs.Taken.{judged}
use Rattle.take_packed.proofs.has_shape.Goals as goal
use Rattle.take_packed.proofs.has_shape.Goals.{then-form-size, else-form-size}

pub returns-then-take-eq-FORM_NUMBER : goal.returns-then-take-eq-FORM_NUMBER
returns-then-take-eq-FORM_NUMBER c =
    let bits = c.form_bits-bits in
    let fill = c.take-then-take-eq-FORM_NUMBER in
    let size : c.div_ceil-size.result ≡ (bits.result + 7) / 8 = omega (arith, c.div_ceil-size.ensures) in
    elim c.if-form-size.branch [
      | then-form-size w ↦
          let one = eqb-true w.take.result 1 (sym w.value-is ∙ c.if-take-eq-FORM_NUMBER.true) in
          judged c.requires bits.result bits.ensures.0 fill.result (λ i. omega (arith, c.type_inv.form i)) (w.if-form-size.true ∙ size) (w.take.ensures.0 ∙ one)
          (rw size at fill.ensures.0)
      | else-form-size w ↦ absurd (w.if-form-size.false (eqb-true _ _ (sym w.value-is ∙ c.if-take-eq-FORM_NUMBER.true)))
    ]
