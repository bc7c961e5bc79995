-- The laws behind two rooms side by side, each file after what it needs.
pub mod Rooms
pub mod ByKind
