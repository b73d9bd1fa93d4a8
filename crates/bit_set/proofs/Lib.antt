pub mod BitsLemmas
pub mod OverLemmas
pub mod SetLemmas
pub mod SpreadLemmas
