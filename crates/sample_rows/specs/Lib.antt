-- The sample patterns, strings and lines, as rows
pub mod Samples
