pub mod Dumped
pub mod Few
pub mod NotNull
pub mod Seen
