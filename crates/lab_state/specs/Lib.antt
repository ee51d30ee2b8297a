-- What contracts of lab_state cite.
pub mod Board
pub mod Boundary
pub mod Handed
pub mod Hub
pub mod Inner
pub mod Lab
pub mod Names
pub mod One
pub mod Pending
pub mod Resumed
pub mod Round
pub mod Run
pub mod Turns
pub mod Undelayed
pub mod Valid
pub mod Workers
