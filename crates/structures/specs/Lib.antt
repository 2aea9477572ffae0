pub mod Form
pub mod Answers
pub mod Fitting
pub mod Laying
pub mod Steps
pub mod Prelude
