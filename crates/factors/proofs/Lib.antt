-- The text, and what is right for an expression
pub mod ReadsIn
pub mod Rights
-- What is read: a leaf, and the marks after an atom
pub mod Atoms
pub mod Carried
