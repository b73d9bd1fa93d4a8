pub mod Allocated
pub mod Reaching
pub mod Shapes
pub mod Spots
