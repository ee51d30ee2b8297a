pub mod Ended
pub mod Holds
pub mod Outbox
pub mod Seat
