-- The laws that the functions' proofs cite, one file a notion.
pub mod Heads
pub mod Images
pub mod Givens
