-- What contracts of lab_snap and of the crates above cite.
pub mod Hub
pub mod Inner
pub mod Lab
pub mod Loaded
pub mod Machine
pub mod MachineForm
pub mod Memory
pub mod Page
pub mod Rising
pub mod Saved
pub mod Snapshot
