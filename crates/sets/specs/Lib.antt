-- What the contracts of the sets cite.
pub mod Value
pub mod Layout
