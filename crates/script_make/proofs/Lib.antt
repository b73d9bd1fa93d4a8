pub mod OneLine
pub mod ScriptLemmas
