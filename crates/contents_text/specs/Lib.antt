-- The contents of the parts of a machine, as lines of text. Source: ours.
pub mod Contents
pub mod Events
pub mod Holding
