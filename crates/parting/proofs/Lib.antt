-- The laws behind agreeing, each file after what it needs.
pub mod Names
pub mod Cells
pub mod Leading
pub mod Links
