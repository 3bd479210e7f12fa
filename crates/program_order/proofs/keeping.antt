-- The properties that each event keeps, and the refusals that it may have.
pub mod Sizes
pub mod Slotted
pub mod There
pub mod Naming
pub mod Numbering
pub mod Telling
pub mod Limits
pub mod Budget
