-- The lemmas of this crate.
pub mod ChangeLemmas
pub mod LineLemmas
pub mod Wraps
