-- The grammar: one tree a text, and one place of SYNTAX.
pub mod Grammar
pub mod Marks
pub mod Begins
pub mod Tree
pub mod Judge
