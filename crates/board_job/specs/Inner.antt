pub mod Moves
pub mod Posting
pub mod Room
