-- From sets of positions to a room image, one file a pass.
pub mod Image
pub mod Build
