pub mod Views
pub mod Called
pub mod Stepping
pub mod Rows
pub mod Talks
pub mod Conversings
pub mod Firsts
