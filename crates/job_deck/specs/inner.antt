-- The relation between the parts of the code and the definitions that a reader checks. Source: ours.
pub mod SessionParts
