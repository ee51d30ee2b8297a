-- The lemmas of this crate.
pub mod BestLemmas
pub mod CourseLemmas
pub mod SearchLemmas
pub mod SetLemmas
pub mod ValidLemmas
