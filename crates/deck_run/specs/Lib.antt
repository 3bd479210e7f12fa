-- The output and the end of the program.
-- Source: ours.
pub mod Running
