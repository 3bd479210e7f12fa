-- An event's tests of one pending instruction, and the slot of each instruction.
pub mod PendingReservations
pub mod Finding
pub mod Phases
pub mod Slotting
