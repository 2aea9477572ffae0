-- What the proofs share.
pub mod Feeding
pub mod Heads
pub mod Heap
pub mod RowTexts
pub mod Words
