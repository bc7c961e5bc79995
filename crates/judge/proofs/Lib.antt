-- The whole text
pub mod Follows
