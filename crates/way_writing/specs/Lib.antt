-- Ways home while they sink, and as they are written.
pub mod Sinking
pub mod WaysWritten
