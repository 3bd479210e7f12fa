-- A board's slots as one list, and the writers and readers of each register.
pub mod Small
pub mod Registers
pub mod Writing
pub mod InSlots
pub mod Standing
