pub mod ByKind
pub mod Ready
pub mod Stays
