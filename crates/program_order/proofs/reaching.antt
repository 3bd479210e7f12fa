-- Reaching a machine, call by call.
pub mod Runs
pub mod Seats
pub mod Reached
