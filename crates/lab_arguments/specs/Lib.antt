-- What contracts of lab_arguments and of the crates above cite.
pub mod Grammar
pub mod Requests
pub mod Usage
pub mod Spelling
pub mod Inner
