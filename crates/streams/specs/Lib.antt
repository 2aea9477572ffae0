pub mod Limits
pub mod Fronts
pub mod Moving
pub mod Failing
pub mod Reading
pub mod Reasons
pub mod Prelude
