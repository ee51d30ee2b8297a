-- What serves private contracts and proofs alone.
pub mod Course
pub mod Words
pub mod Opened
pub mod Stored
pub mod Lent
