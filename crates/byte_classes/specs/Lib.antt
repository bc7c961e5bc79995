-- From the byte sets of positions to classes of byte values and their masks, one file a pass.
pub mod Group
pub mod Groups
pub mod Masks
