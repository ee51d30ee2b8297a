-- What serves private contracts and proofs alone.
pub mod Gives
pub mod Course
