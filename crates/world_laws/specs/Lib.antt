pub mod Effects
pub mod Examples
pub mod Labels
pub mod Named
pub mod Outward
pub mod Promotions
pub mod Wanting
pub mod Worlds
