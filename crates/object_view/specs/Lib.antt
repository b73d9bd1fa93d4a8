pub mod Values
pub mod Words
pub mod Objects
pub mod Changes
pub mod Seen
