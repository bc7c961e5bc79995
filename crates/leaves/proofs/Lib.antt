-- The text: ends inside of it, and how a byte is read
pub mod ByteByByte
-- Byte sets in the buffer
pub mod GrownSets
-- What stands at one position
pub mod ClassItems
pub mod ClassEnd
pub mod Singles
