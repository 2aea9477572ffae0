pub mod Limits
pub mod States
pub mod Asks
pub mod Rows
pub mod Following
pub mod Members
pub mod Laws
pub mod Prelude
