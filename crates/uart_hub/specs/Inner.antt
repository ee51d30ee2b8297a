-- What serves private contracts and proofs alone.
pub mod Rank
