pub mod Unspelled
