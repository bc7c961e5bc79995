pub mod Became
