-- The results of calls from C, the calls that keep a machine, the ownership of a pointer that C keeps, and the version.
-- Source: ours.
pub mod Advance
pub mod Embedding
pub mod Keeping
pub mod Owning
pub mod Version
