-- What the contracts of dev_core, of the devices and of the crates above them cite.
pub mod Answered
pub mod Bit
pub mod Can
pub mod CanBits
pub mod CanFrame
pub mod Device
pub mod Finisher
pub mod Frame
pub mod Inner
pub mod Kind
pub mod Post
pub mod Stock
pub mod Uart
pub mod UartBits
