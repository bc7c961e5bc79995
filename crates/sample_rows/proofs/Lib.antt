-- The samples: a test that is computed over a row, for each kind of row.
pub mod ReadsBy
pub mod Table
pub mod Numbering
pub mod Shown
pub mod Lost
pub mod Apart
pub mod Samples
