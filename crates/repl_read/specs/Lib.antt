-- What contracts of repl_read and of the crates above cite.
pub mod Comments
pub mod Cuts
pub mod Entries
pub mod Features
pub mod Forms
pub mod Heads
pub mod Items
pub mod Laws
pub mod Lines
pub mod Platform
pub mod Tokens
pub mod Words
pub mod Inner
