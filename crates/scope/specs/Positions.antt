-- Positions to machine: the sets of positions, as predicates and as numbers; classes and reached sets.
pub mod Sets
pub mod Bits
pub mod Reached
