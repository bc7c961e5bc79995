-- The laws behind a round, each file after what it needs.
pub mod Passes
pub mod Gaps
