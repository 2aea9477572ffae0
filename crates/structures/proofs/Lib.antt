pub mod Prelude
pub mod Got
pub mod Formed
pub mod Fitted
pub mod Laid
pub mod Narrow
pub mod Clauses
