pub mod Inputs
pub mod Outside
