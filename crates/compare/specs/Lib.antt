-- What the contracts of comparing cite.
pub mod Twins
pub mod CompareAnswer
