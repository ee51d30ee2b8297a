-- Lemmas of job.
pub mod PostLemmas
pub mod RanLemmas
pub mod SendLemmas
pub mod SlotLemmas
pub mod TurnLemmas
