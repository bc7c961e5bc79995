pub mod Dead
pub mod Texts
pub mod FormPlaces
pub mod Testing
pub mod FieldTests
