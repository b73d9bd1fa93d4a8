pub mod Packed
pub mod Pages
pub mod Space
