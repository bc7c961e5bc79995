-- What the contracts of the refinement cite.
pub mod Refined
