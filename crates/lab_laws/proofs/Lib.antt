-- Lemmas of lab_laws.
pub mod EndLemmas
pub mod FaultLemmas
pub mod HandedLemmas
pub mod OrderLemmas
pub mod ReachedLemmas
pub mod UndelayedLemmas
