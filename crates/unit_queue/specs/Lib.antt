-- The definitions of a lane: what its ends know, and the rule that its steps preserve. Source: ours.
pub mod Lanes
pub mod Rules
