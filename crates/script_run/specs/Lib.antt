pub mod Dumps
pub mod Ends
pub mod Outside
pub mod Progress
