-- Document 01, rendered: one file a notion, in the order of the document.

-- The numbers that bound the work; bytes, tests that decide, how many of a kind there are
pub mod Limits
pub mod Bytes
pub mod Tests
pub mod Count
-- The pattern language, and what expressions mean
pub mod Text
-- Positions to machine
pub mod Positions
pub mod Machines
-- Answers, in order of judgement
pub mod Answers
pub mod Operations
-- The packed form
pub mod Packing
-- The three demands, on the contracts
pub mod Demands
-- The program's lines
pub mod Lines
