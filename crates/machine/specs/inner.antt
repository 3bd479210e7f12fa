-- The relation between the fields of the code and the definitions that a reader checks. Source: ours.
pub mod Storing
pub mod View
