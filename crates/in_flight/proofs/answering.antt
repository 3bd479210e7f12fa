-- The answers of board and hopper about that list.
pub mod Boarding
pub mod Beside
pub mod Referring
