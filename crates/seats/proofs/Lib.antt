-- The laws of the seats.
pub mod Kept
pub mod Seats
