pub mod PatternSets
-- Parts, one after the other
pub mod Parts
-- Where a text names a byte
pub mod Named
