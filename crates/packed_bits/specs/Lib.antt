-- The bit fields of a form.
pub mod PackedFields
