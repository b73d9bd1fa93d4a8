pub mod Fields
pub mod Types
pub mod Parts
pub mod Records
pub mod Formed
pub mod Dump
pub mod Examples
