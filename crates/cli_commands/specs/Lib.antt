pub mod Answers
pub mod Hexadecimal
pub mod Laws
pub mod Checks
pub mod Commands
pub mod Asked
pub mod Refusals
pub mod Saying
