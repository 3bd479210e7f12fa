-- The work of the program, and its end.
-- Source: ours.
pub mod Request
pub mod Program
