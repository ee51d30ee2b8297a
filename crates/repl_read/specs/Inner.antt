-- What serves private contracts and proofs alone.
pub mod Entries
pub mod Gives
pub mod Steps
pub mod Turns
