-- How the program's two lines are taken.
pub mod Taking
