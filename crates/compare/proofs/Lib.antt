-- The laws behind comparing.
pub mod Twins
pub mod Results
