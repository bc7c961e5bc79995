-- What the contract of a round cites.
pub mod Round
