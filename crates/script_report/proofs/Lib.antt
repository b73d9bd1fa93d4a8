pub mod Dumps
pub mod OwnAlone
pub mod OwnCommands
pub mod OwnText
pub mod OwnTold
pub mod Picked
pub mod Reports
pub mod Wanting
