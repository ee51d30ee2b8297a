-- The lemmas of this crate.
pub mod Masks
pub mod Sole
pub mod Rows
pub mod Opcodes
pub mod WatchLemmas
pub mod SpanLemmas
pub mod StoreLemmas
pub mod OtherHarts
pub mod OwnSteps
pub mod HistoryLemmas
pub mod StayLemmas
pub mod AloneLemmas
mod KnownWords
