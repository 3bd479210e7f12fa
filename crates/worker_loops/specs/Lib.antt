-- The definitions of what workers count. Source: ours.
pub mod Tallies
