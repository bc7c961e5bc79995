-- What is known of the two lines that were read.
pub mod Input
