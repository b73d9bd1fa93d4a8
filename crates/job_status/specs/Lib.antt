pub mod Inputs
pub mod Status
