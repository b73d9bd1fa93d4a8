pub mod Head
pub mod Examples
