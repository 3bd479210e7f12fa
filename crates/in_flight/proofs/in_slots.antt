-- The list that the slots represent.
pub mod Asked
pub mod Moving
pub mod Oldest
pub mod Listing
