-- The definitions of the hopper: its places, the busy banks, and the results of its calls. Source: Thornton, stunt box;
-- 60100000, central memory.
pub mod Hopper
pub mod Queue
pub mod inner
