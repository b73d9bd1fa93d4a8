pub mod Dumps
pub mod Entries
pub mod Inputs
pub mod LastLine
pub mod Lines
pub mod Pieces
pub mod Replies
pub mod Steps
