pub mod ClassList
pub mod Defining
pub mod Kinds
pub mod Layout
pub mod Names
pub mod Padding
pub mod Placing
pub mod Rows
