-- What the program's lines are put from.
pub mod Printing
