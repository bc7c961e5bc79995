pub mod Stored
pub mod Numbered
