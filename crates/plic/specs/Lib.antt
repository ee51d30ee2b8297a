-- What the contracts of the PLIC and of the crates above it cite.
pub mod Claim
pub mod Course
pub mod Gateway
pub mod Laws
pub mod Map
pub mod Registers
pub mod Sources
pub mod State
pub mod Inner
