-- Changes of different parts of the state, extended to all pending instructions.
pub mod Effects
pub mod OnePending
pub mod Completing
pub mod Passing
