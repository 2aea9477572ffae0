pub mod Digits
pub mod Checkings
pub mod Inputs
pub mod Flags
pub mod Vectored
