pub mod Names
pub mod Escaping
pub mod Telling
pub mod Stopping
pub mod Seen
pub mod Prelude
