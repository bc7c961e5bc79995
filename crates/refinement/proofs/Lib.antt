-- The laws behind the refinement, each file after what it needs.
pub mod RoundTurns
pub mod Refined
