-- The packed form.
pub mod PackedForm
pub mod ReadBack
pub mod Laid
