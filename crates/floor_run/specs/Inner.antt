pub mod Close
pub mod Hand
pub mod Round
pub mod Steps
