-- The definitions of a whole run of the machine that executes one instruction at a time, of the order in which a run
-- makes its requests for exchanges, and of the logs that fulfil them. Source: ours.
pub mod Turns
pub mod Run
pub mod Made
pub mod inner
pub mod Requests
pub mod Fulfilled
