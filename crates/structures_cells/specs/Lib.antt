pub mod Table
pub mod Same
pub mod Shape
pub mod Faults
pub mod Writing
pub mod Cells
pub mod Steps
pub mod Prelude
