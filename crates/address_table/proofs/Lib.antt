pub mod Behind
mod Apart
mod Packed
pub mod Fitting
pub mod Homes
pub mod Listed
pub mod Beside
