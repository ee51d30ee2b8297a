-- What serves private contracts and proofs alone.
pub mod Reading
pub mod Ruling
pub mod Writing
