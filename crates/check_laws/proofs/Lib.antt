-- Lemmas of check_laws.
pub mod ListLemmas
pub mod KeepLemmas
pub mod RunLemmas
pub mod SameLemmas
pub mod CommandLemmas
pub mod LineLemmas
pub mod ScriptLemmas
