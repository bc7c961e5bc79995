-- What the contracts of agreeing cite.
pub mod Named
pub mod CellRows
pub mod Chain
