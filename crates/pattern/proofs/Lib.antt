-- The laws behind the readers' proofs, one file a notion.

-- Readings from left to right; parentheses, the loops, the whole text
pub mod Tails
pub mod Groups
pub mod Turns
pub mod Whole
-- The line end in a word
pub mod LineEnd
