-- What contracts of floor_run and of the crates above cite.
pub mod Bench
pub mod Claim
pub mod Close
pub mod Inner
pub mod Rule
pub mod Shown
pub mod Turns
pub mod View
