-- Lemmas of can_sja1000.
pub mod AcceptanceLemmas
pub mod CarryingLemmas
pub mod DividerLemmas
pub mod FilterLemmas
pub mod HeldLemmas
pub mod StateLemmas
