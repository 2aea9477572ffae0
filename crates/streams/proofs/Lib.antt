pub mod Parts
pub mod Fronts
pub mod Moving
