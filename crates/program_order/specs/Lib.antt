-- The definitions of the machine with instructions in flight: its events, their refusals and effects, and what every
-- run promises. Source: Thornton; 60100000; what is ours is marked in each file.
pub mod Complete
pub mod Processor
pub mod Issue
pub mod Units
pub mod Memory
pub mod Exchange
pub mod Peripheral
pub mod EitherOrder
pub mod Events
pub mod Invariant
pub mod Run
pub mod Headline
pub mod Drain
pub mod Reached
pub mod Refusals
pub mod Telling
pub mod SnapshotView
