-- What the contracts of compiling cite.
pub mod CompilePasses
