pub mod Words
pub mod Flat
pub mod Sure
pub mod Adding
