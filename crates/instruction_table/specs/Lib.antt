-- The definitions of the instruction table; each file names its source.
pub mod Decoding
pub mod Table
pub mod Octal
pub mod Opcode
pub mod Pattern
pub mod Candidate
pub mod Spelling
