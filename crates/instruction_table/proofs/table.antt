-- Decoding at a position agrees with the table.
pub mod DecodingLaws
pub mod Refusals
pub mod RoundTrip
pub mod ByTable
