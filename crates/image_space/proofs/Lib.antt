pub mod SpotLemmas
pub mod PageLemmas
