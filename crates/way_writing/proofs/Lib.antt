-- Ways that sink, sweep by sweep, until they are the ways home; and how they are written.
pub mod Sinking
pub mod WaysWritten
