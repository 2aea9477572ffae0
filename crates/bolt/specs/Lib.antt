pub mod Starting
pub mod Served
pub mod Reasons
