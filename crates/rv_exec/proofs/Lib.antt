-- Lemmas of `rv_exec`.
pub mod CounterLemmas
pub mod CompressedLemmas
