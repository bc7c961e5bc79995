-- What the contracts of the runs cite.
pub mod Runs
