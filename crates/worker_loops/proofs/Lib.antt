pub mod NotesTaken
pub mod Sent
