pub mod State
pub mod Cards
pub mod Stands
pub mod Acts
pub mod Same
pub mod Slots
pub mod Collections
