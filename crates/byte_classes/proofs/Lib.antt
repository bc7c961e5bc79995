-- The laws that the functions' proofs cite, one file a notion.
pub mod NumbersMet
pub mod Unions
pub mod RunEnds
pub mod Classes
pub mod Masking
