-- What the calls of a handle tell, in which numbers, and what a handle owns.
pub mod Answers
pub mod Feeding
pub mod Values
pub mod Rules
pub mod Codes
pub mod Owning
