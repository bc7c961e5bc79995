pub mod Marks
pub mod Followed
pub mod Expecting
