pub mod TakenApart
pub mod Determined
