pub mod Address
pub mod Counts
pub mod Frame
pub mod Leaf
pub mod Tables
pub mod Grid
pub mod Slots
