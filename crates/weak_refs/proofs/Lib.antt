pub mod Slots
pub mod Clears
pub mod Seen
