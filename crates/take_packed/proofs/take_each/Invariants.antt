-- The bytes so far are the fields.
use Rattle.packed_bits.specs.PackedFields.{FieldsFrom}
use Rattle.take_packed.specs.FormImage.{form_bit}
use Rattle.take_packed.proofs.take_each.Given as goal

abbrev pub invariant-loop-i : goal.invariant-loop-i
invariant-loop-i l = FieldsFrom (form_bit l.form) l.p l.width l.bytes l.i
