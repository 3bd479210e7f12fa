-- The lemmas, lowest first.
pub mod Opened
pub mod in_slots
pub mod changing
