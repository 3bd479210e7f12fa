pub mod Opened
pub mod Entries
pub mod Performing
pub mod Runs
pub mod UnitIssues
