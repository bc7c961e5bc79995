pub mod Own
pub mod Passes
