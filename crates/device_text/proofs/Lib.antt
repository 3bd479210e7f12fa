pub mod Moving
pub mod Putting
pub mod Separators
pub mod Numbers
pub mod Lines
pub mod Texts
