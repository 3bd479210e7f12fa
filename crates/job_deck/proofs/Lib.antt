pub mod printing
pub mod sessions
pub mod Unread
pub mod Fitting
pub mod Unfit
pub mod Judged
