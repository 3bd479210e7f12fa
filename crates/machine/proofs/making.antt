-- The machine after each event.
pub mod Saving
pub mod Making
pub mod Leaving
pub mod Made
pub mod Answering
pub mod Reading
pub mod Storing
