-- The text of a log: its steps, and the line after a deck that has it. LogLineParts, in inner, relates the fields of a
-- line to the log that FollowingLog finds in it.
-- Source: ours.
pub mod LogText
pub mod FollowingLog
pub mod inner
