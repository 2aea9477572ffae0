pub mod NoValue
pub mod Standing
pub mod Taking
pub mod Scanning
pub mod Opening
