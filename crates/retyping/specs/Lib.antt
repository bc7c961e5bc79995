pub mod Retype
