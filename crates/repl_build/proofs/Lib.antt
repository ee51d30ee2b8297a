-- Lemmas of repl_build.
pub mod ConnectionLemmas
pub mod CountLemmas
pub mod EntryLemmas
mod FoundLemmas
pub mod ListLemmas
pub mod LoopLemmas
pub mod NameLemmas
pub mod NoneLemmas
pub mod NumberLemmas
pub mod PartCounts
pub mod PartLemmas
pub mod PlanCounts
mod PlaceLemmas
pub mod ProcessorLemmas
pub mod QuestionLemmas
pub mod RangeLemmas
pub mod RegionLemmas
mod SeenLemmas
pub mod SoundLemmas
pub mod SpeedLemmas
pub mod TestedLemmas
pub mod TypeLemmas
pub mod UpdateLemmas
pub mod ValidLemmas
pub mod WhatLemmas
pub mod WireLemmas
pub mod WireValid
