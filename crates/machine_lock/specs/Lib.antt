-- The definitions of the machine under a lock: the lock's invariant, the answers of the calls of the lock's holder, and
-- its callers' knowledge of the log, which the progress word counts. Source: ours.
pub mod Held
pub mod inner
pub mod CallerKnowledge
