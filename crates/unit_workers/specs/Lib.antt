-- The definitions of a run: how it begins, how the seen log grows, when it ends, and its tallies. Source: ours.
pub mod Beginning
pub mod Ending
pub mod Onward
pub mod Settled
