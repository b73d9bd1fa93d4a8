pub mod Raws
pub mod Kept
pub mod Paging
pub mod Turned
pub mod Uncounted
pub mod Counted
