pub mod DeskAnswers
pub mod Entry
pub mod Show
pub mod Key
pub mod Open
pub mod Press
