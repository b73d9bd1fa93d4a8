pub mod Raws
pub mod References
pub mod Keeps
