-- What serves private contracts and proofs alone.
pub mod Found
pub mod Places
pub mod Seen
pub mod Tested
