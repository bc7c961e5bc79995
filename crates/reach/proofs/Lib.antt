-- The laws of the search, one file a notion.
pub mod Passing
pub mod Cells
pub mod RowsFilled
