-- Lemmas on members and their times.
pub mod SourceLemmas
