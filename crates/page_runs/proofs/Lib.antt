pub mod RunLemmas
pub mod LawLemmas
