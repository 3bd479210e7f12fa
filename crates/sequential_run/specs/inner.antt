-- The relation between the code of a sequential run, or of its requests, and its definitions. Source: ours.
pub mod Course
pub mod Stepping
pub mod Judging
