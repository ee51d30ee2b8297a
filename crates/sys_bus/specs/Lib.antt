-- What contracts of sys_bus and of the crates above cite.
pub mod Region
pub mod Name
pub mod Part
pub mod Limits
pub mod Wire
pub mod Plan
pub mod Inner
pub mod Place
