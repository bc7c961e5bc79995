pub mod Expected
pub mod Classes
