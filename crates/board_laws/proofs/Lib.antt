-- Lemmas of board_laws.
pub mod ResetLemmas
pub mod TurnLemmas
