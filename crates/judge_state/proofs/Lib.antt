-- What keeps the notes, and what a byte makes of what is known
pub mod Keeps
pub mod ByteTaken
