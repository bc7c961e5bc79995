-- Laws that belong to no one function; callers cite those of Image.
mod Bytes
mod Taken
pub mod FormImage
