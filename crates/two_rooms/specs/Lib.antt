-- What the contracts over two rooms cite.
pub mod Side
pub mod Kinds
