-- The laws behind spelling, each file after what it needs.
pub mod Climbing
pub mod Halving
pub mod Spelling
