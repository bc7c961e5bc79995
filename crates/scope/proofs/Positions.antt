-- Glushkov: sets of positions as numbers, paths, reached sets.
pub mod Bits
pub mod Marked
pub mod Moves
pub mod Glushkov
pub mod Reached
