pub mod CardSet
pub use Rattle.bit_set.specs.Tests
pub use Rattle.bit_set.specs.Bits
