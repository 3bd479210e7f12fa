-- Texts that are printed or read in pieces.
pub mod Ranges
pub mod Listings
pub mod Refused
