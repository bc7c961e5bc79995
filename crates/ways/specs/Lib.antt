-- The classes that some byte has, and the least of the ways that they lead to.
pub mod Held
pub mod LeastOver
