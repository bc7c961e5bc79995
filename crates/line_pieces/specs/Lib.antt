-- What stands in a buffer after some bytes were put, and the lines that are put into one.
pub mod Appended
pub mod Lines
