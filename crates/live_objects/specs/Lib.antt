pub mod Reach
pub mod Live
pub mod Marks
