pub mod Chains
pub mod Merged
