pub mod Kept
pub mod Ledger
pub mod Shown
pub mod Spelled
pub mod Table
