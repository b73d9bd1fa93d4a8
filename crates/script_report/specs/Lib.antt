pub mod Dumps
pub mod Own
pub mod Report
pub mod Wanting
