pub mod Answers
pub mod Asks
pub mod Notes
pub mod Reads
