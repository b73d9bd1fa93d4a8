pub mod Lists
pub mod ModUnion
pub mod Noted
pub mod Scans
