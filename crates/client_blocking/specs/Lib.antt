pub mod Views
pub mod Asking
pub mod Prelude
