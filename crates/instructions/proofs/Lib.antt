pub mod Lists
pub mod Sorted
pub mod Finding
pub mod Slots
pub mod ResultLists
pub mod MemoryUses
