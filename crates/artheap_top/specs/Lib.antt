pub mod Soaking
pub mod Summary
pub mod Words
