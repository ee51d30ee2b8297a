-- Lemmas of floor_run.
pub mod CloseLemmas
pub mod OpenLemmas
pub mod RoundLemmas
pub mod ShownLemmas
pub mod StepLemmas
pub mod TurnLemmas
