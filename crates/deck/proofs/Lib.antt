pub mod Fields
pub mod DeckLines
pub mod Unread
pub mod Sizes
