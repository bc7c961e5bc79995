-- What the code's stages, pieces and records stand for.
pub mod Reading
