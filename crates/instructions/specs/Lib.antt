-- The definitions of instructions, of one value per unit, and of lists. Each file names its source.
pub mod Operations
pub mod Operands
pub mod Shape
pub mod Refusals
pub mod RegisterLists
pub mod PerUnit
pub mod Each
pub mod Order
pub mod Finding
