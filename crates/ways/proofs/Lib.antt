-- The numbers that a room keeps; the least of those that classes lead to; the classes that some byte has.
pub mod Kept
pub mod LeastOver
pub mod HeldClasses
