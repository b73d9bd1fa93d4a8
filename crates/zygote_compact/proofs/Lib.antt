pub mod Lists
pub mod Young
pub mod Spots
pub mod Moved
pub mod Kept
pub mod Can
