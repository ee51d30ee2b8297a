-- What contracts of lab_num and of the crates above cite.
pub mod Change
pub mod Depth
pub mod Halves
pub mod Key
pub mod Listing
pub mod Name
pub mod Numbered
pub mod Numeral
pub mod Paid
pub mod Returns
pub mod Route
pub mod Time
