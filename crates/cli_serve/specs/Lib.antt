pub mod Printing
pub mod Reasons
pub mod Serving
