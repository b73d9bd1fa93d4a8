pub mod ChainLemmas
pub mod MoveLemmas
pub mod RowLemmas
pub mod NewLemmas
pub mod OpenLemmas
