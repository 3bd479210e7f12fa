pub mod Opened
pub mod asking
pub mod in_slots
pub mod answering
