-- What the contracts of spelling cite.
pub mod Climb
pub mod Word
