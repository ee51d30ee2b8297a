-- What contracts of time_source and of the crates above cite.
pub mod Inner
pub mod Tree
