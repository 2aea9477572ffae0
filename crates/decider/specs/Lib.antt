pub mod Rules
pub mod State
pub mod Laws
pub mod Attempts
pub mod Markers
pub mod Servers
