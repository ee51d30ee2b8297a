-- The rule of the mailbox, which serves the models and the proofs.
pub mod Mailbox
pub mod Seen
pub mod Steps
