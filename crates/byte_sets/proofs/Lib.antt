-- The leaves of a text, one after the other
pub mod LeavesOf
-- The bytes that they hold
pub mod Filling
