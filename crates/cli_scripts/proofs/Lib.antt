pub mod Numbers
pub mod Lines
pub mod Parted
pub mod Dictionaries
