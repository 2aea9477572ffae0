pub mod Words
pub mod Twins
pub mod Members
pub mod Laid
pub mod Fronts
