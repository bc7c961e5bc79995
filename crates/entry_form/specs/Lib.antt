-- A form and the text of a field, then the test of a form.
pub mod EntryForm
pub mod Text
pub mod ValidForm
