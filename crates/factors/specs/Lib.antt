-- What can be read at a place
pub mod Tails
-- What a part is, and what the readers answer
pub mod Right
pub mod Answer
