-- What the contracts of the search for reached sets cite.
pub mod Reach
