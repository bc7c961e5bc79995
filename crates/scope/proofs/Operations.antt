-- The contracts determine their results.
pub mod Buffers
pub mod Determined
pub mod Compile
pub mod Minimise
pub mod Match
pub mod Compare
pub mod Pack
pub mod Unpack
