pub mod Swept
pub mod Smallest
