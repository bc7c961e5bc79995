-- What the public contract says, and what is judged of the places that were noted.
pub mod Judges
pub mod Faults
