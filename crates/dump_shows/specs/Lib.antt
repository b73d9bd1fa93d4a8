pub mod Examples
pub mod Reading
pub mod Same
pub mod Shows
