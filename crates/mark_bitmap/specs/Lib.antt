pub mod Marks
pub use Rattle.bit_set.specs.Tests
pub use Rattle.bit_set.specs.Bits
