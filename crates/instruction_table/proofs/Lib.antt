pub mod table
pub mod texts
