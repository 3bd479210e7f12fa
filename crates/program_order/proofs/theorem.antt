-- From the effect of one event to the headline about every run.
pub mod Moves
pub mod Apart
pub mod Events
pub mod Issuing
pub mod Theorem
pub mod Headline
