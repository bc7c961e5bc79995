-- The theorems on the definitions of specs/, one file a notion.
pub mod Counting
pub mod Text
pub mod Positions
pub mod Machines
pub mod Packing
pub mod Operations
-- The three demands, on the contracts
pub mod Told
pub mod Refusals
pub mod Demands
