-- What the contracts of signs cite.
pub mod Signs
