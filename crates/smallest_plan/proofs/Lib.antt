pub mod Finer
pub mod FrontOrder
pub mod Kinded
pub mod TableRows
