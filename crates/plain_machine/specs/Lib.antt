pub mod Outcomes
pub mod Worlds
