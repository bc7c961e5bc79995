-- The bytes that a position holds
pub mod GrownSets
-- What can be read at a place
pub mod ReadAt
