-- The relation between the fields of the code and the definitions that a reader checks. Source: ours.
pub mod LockInvariant
pub mod Rules
