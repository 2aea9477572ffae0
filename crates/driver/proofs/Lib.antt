pub mod Leading
pub mod Reading
pub mod Keeping
pub mod Asking
pub mod Parting
pub mod Stopping
pub mod Trying
pub mod Adding
pub mod Columns
pub mod Retried
mod Examples
mod Walks
