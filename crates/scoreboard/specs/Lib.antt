-- The definitions of the scoreboard: units, issued instructions, their conflicts, and the board.
-- Source: Thornton, scoreboard; 60100000, unit and register conflicts.
pub mod Units
pub mod Reservations
pub mod Conflicts
pub mod Writers
pub mod Issued
pub mod Answers
pub mod inner
