-- What unpacking reads from a form.
pub mod FormImage
