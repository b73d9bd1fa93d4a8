pub mod Viewed
pub mod Examples
