-- The packed form, and the same field by field.
pub mod PackedForm
pub mod Laid
