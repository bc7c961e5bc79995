pub mod One
pub mod Open
pub mod Presses
pub mod History
pub mod Given
