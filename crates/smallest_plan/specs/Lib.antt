pub mod Smallest
pub mod Classed
pub mod Planned
