-- The relation between the fields of the code and the definitions that a reader checks. Source: ours.
pub mod Slots
pub mod OwnSlots
pub mod Board
