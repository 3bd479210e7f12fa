-- The end of the program.
-- Source: ours.
pub mod Status
