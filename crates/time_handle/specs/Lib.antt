-- What contracts of time_handle and of the crates above cite.
pub mod Grant
pub mod Inner
