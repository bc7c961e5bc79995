-- The laws behind signs, each file after what it needs.
pub mod Marks
pub mod Signs
pub mod Noting
