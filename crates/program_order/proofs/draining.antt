-- Forty events drain a machine, and a drained machine goes on.
pub mod Pigeons
pub mod Counting
pub mod Draining
pub mod GoingOn
pub mod OnPending
pub mod Accounts
