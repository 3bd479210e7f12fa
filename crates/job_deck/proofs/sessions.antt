-- What a schedule says, how far a session has come, how it ends, and its answers if none begins.
pub mod Speaking
pub mod ScheduleLines
pub mod Sessions
pub mod Endings
pub mod Unbegun
