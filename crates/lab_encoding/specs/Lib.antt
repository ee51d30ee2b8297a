-- What contracts of lab_encoding and of the crates above cite.
pub mod BoardState
pub mod Combine
pub mod DeviceStates
pub mod Form
pub mod Frames
pub mod HartStates
pub mod Inner
pub mod InterruptStates
pub mod Keys
pub mod OpenLines
pub mod Plan
pub mod PlanParts
pub mod Posts
pub mod Reads
