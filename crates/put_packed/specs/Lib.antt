-- A form on its way out.
pub mod PutBits
