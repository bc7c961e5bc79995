-- The mode machine, and what is noted beside it: no rule of 01, but what the contracts of judging and the theorems on SYNTAX cite.
pub mod Modes
pub mod Notes
