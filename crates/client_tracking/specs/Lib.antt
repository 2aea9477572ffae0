pub mod Account
pub mod Feeding
pub mod Holding
pub mod Asking
pub mod Telling
pub mod Fates
pub mod Attempts
pub mod Runs
