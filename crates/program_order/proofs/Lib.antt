pub mod Opened
pub mod effects
pub mod theorem
pub mod keeping
pub mod draining
pub mod reaching
