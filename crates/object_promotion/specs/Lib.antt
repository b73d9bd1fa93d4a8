pub mod Listed
pub mod Phases
pub mod Promotes
