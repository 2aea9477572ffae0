pub mod Reasons
pub mod Serving
