-- What contracts of lab_io and of the crates above cite.
pub mod Known
pub mod Held
pub mod Asked
pub mod Sink
pub mod Frame
pub mod Whole
pub mod FilesSeen
pub mod SinkSeen
pub mod Store
pub mod StoreSeen
