-- What the laws of CAN controllers cite.
pub mod Calls
