pub mod Opening
pub mod Parts
pub mod Room
pub mod Coming
pub mod Taken
pub mod Fronts
pub mod Told
pub mod Arriving
