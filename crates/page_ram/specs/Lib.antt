-- What contracts of page_ram and of the crates above cite.
pub mod LittleEndian
pub mod Bytes
pub mod Access
pub mod Pages
pub mod Inner
