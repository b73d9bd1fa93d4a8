pub mod Shown
pub mod Space
