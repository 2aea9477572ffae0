pub mod Views
pub mod Known
pub mod Tales
pub mod Asked
