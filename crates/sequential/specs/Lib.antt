-- The definitions of the machine that executes one instruction at a time, its exchange and its log. Each file names its
-- source.
pub mod Position
pub mod State
pub mod Work
pub mod Step
pub mod Swap
pub mod Replay
pub mod UnitIssues
pub mod Log
