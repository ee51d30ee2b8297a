-- What contracts of log_text cite.
pub mod Frame
pub mod Inner
pub mod Line
pub mod Log
pub mod Names
pub mod Number
pub mod Printable
