pub mod Tables
pub mod RowFacts
pub mod Sets
pub mod Gathered
pub mod Growing
pub mod Leading
