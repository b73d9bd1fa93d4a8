pub mod Completeness
pub mod Soaks
pub mod Digits
