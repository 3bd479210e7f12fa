-- A board after each change.
pub mod Right
pub mod Changing
pub mod Reserving
pub mod OfKind
