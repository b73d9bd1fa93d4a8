pub mod Collects
pub mod Listed
pub mod Phases
pub mod Weaks
