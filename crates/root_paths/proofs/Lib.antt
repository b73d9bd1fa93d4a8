pub mod Finding
pub mod Ends
pub mod Leading
pub mod Reaching
pub mod Ways
pub mod Shortest
pub mod Lines
pub mod Telling
