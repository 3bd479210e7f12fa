-- The definitions of the registers.
-- Source: 60100000, operating registers.
pub mod Registers
