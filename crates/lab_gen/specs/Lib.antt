-- What contracts of lab_gen cite.
pub mod Firmware
pub mod Plan
pub mod Generated
pub mod Summary
pub mod Inner
