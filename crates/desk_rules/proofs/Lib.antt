pub mod Typed
pub mod Good
pub mod Shown
pub mod Exact
pub mod Press
pub mod DeskAnswers
