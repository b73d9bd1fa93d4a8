pub mod Parts
pub mod Formed
pub mod Records
pub mod Dump
pub mod Narrow
pub mod Fault
pub mod Reading
pub mod Examples
