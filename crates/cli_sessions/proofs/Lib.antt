pub mod Followed
pub mod Looped
pub mod Served
