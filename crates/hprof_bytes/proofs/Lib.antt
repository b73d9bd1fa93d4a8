pub mod ClassLists
pub mod Frames
