pub mod Faults
pub mod PutAll
pub mod RowLemmas
pub mod ShelfEntries
