-- The pattern language: trees, the grammar, what expressions mean, the judgements on a text.
pub mod Tree
pub mod Grammar
pub mod Re
pub mod Judge
