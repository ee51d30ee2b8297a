-- What contracts of job and of the crates above cite.
pub mod Inner
pub mod BoardJob
pub mod Ran
pub mod Slots
