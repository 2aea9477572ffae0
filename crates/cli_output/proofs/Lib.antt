pub mod Escapings
pub mod Gets
pub mod Spelled
