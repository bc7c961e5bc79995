-- What each operation answers and leaves.
pub mod Buffers
pub mod Compile
pub mod Minimise
pub mod Match
pub mod Compare
pub mod Pack
pub mod Unpack
