pub mod LawLemmas
pub mod PageLemmas
pub mod RowLemmas
pub mod TableLemmas
