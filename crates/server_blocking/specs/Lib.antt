pub mod Views
pub mod Conversing
pub mod Breaking
pub mod Putting
pub mod Settling
pub mod Serving
pub mod Responding
pub mod Prelude
