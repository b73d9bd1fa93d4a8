pub mod MarksLemmas
