-- Lemmas of lab_num.
pub mod DigitLemmas
mod Examples
pub mod KeyLemmas
pub mod LineLemmas
pub mod ListingLemmas
pub mod ListLemmas
pub mod NameLemmas
pub mod NumeralLemmas
pub mod ReturnLemmas
pub mod SortLemmas
