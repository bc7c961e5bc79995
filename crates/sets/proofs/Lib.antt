-- The laws of the sets.
pub mod Words
pub mod HeldBits
