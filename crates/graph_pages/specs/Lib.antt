pub mod Holds
pub mod Pages
pub mod Collected
pub mod Cleared
