pub mod Paths
pub mod Levels
pub mod Answer
pub mod Putting
pub mod Shortest
