pub mod CountLemmas
pub mod KindLemmas
pub mod NameLemmas
pub mod PlanLemmas
pub mod RegionLemmas
