pub mod Opened
pub mod Standing
pub mod Laws
