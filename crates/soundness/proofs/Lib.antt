-- Keys and the ways that they are of; the least keys; what they decide; a room without its tail.
pub mod Keys
pub mod WaysJudged
pub mod Whole
