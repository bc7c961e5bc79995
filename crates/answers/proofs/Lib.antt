-- Number and values tell an answer
pub mod Told
