pub mod Piecewise
pub mod Heads
pub mod Naming
pub mod Frames
pub mod Holding
pub mod Prelude
