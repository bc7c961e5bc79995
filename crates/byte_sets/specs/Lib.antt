-- The leaves of a text, one after the other
pub mod LeavesOf
-- The bytes that positions hold
pub mod BytesCame
