-- What contracts of elf_load and of the crates above cite.
pub mod Fields
pub mod Header
pub mod Segment
pub mod Image
pub mod Map
pub mod Laws
pub mod Inner
