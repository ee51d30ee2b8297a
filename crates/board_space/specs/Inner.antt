pub mod Remembers
