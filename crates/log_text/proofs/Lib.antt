pub mod LogReading
pub mod FieldLengths
pub mod FollowingLines
