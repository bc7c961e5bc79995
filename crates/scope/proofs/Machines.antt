-- Machines and rooms: runs, the least and the only canonical room; rounds and separating strings.
pub mod Room
pub mod Run
pub mod Least
pub mod Unique
pub mod SameMoves
pub mod Ways
pub mod Moved
pub mod Rounds
pub mod Aside
pub mod Separate
