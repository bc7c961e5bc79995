-- What the report is made of.
pub mod Report
