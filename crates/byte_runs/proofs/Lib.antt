-- The laws of the runs.
pub mod Ends
