-- The mode machine is exact: a derivation drives it and is noted, its state says what has been read, and so it finds the places of SYNTAX.
pub mod Nested
pub mod MarkSteps
pub mod Drives
pub mod Builds
pub mod Places
