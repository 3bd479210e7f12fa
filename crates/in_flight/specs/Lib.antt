-- The definitions of the instructions in flight, which are issued and have an effect still to come. Source: ours. Their
-- refusals (Tests.antt) are from Thornton and 60100000.
pub mod Pending
pub mod Lookup
pub mod Tests
pub mod Apart
pub mod Flight
pub mod inner
