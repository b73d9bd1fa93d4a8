pub mod WindowLemmas
pub mod LeafLemmas
pub mod ListLemmas
pub mod PatchLemmas
pub mod GridLemmas
pub mod SlotsLemmas
