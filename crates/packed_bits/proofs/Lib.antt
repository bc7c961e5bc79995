-- Laws that belong to no one function.
pub mod Shifts
pub mod PackedFields
