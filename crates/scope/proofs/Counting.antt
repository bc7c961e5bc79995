-- Tests that decide, lists, counting, numberings.
pub mod Tests
pub mod Lists
pub mod Hole
pub mod Count
pub mod Chain
pub mod Arrival
