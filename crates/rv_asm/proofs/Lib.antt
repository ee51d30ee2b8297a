-- The lemmas of this crate.
pub mod ReadingLemmas
pub mod RoundTrip
pub mod BoundaryLemmas
pub mod NumeralLemmas
pub mod ProgramLemmas
pub mod OffsetLemmas
pub mod Positions
