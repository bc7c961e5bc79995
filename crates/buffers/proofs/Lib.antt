pub mod OneMore
pub mod Numbered
