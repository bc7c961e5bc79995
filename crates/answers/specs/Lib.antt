-- The numbers and values of each enum
pub mod Numbers
