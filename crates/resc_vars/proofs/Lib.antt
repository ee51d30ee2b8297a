pub mod ItemLemmas
mod FlowLemmas
mod LineLemmas
mod RestLemmas
mod VariableLemmas
pub mod Counts
mod BehindLemmas
mod ClosedLemmas
mod TextLemmas
mod ThingLemmas
mod ComingLemmas
mod JoinLemmas
mod SameLemmas
