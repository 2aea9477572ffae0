pub mod Events
pub mod Running
pub mod Texts
pub mod Scripts
pub mod Prelude
