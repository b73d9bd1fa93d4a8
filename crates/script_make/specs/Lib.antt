pub mod Boot
pub mod Draws
pub mod Examples
pub mod Lines
pub mod Script
