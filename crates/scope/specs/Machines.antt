-- Machines, ways home, their rooms, the canonical one; strings that tell two apart, and rounds.
pub mod Machine
pub mod Ways
pub mod Room
pub mod Canonical
pub mod Separate
pub mod Rounds
