-- What contracts of repl_files and of the crates above cite.
pub mod Content
pub mod Laws
pub mod Loaded
pub mod Loading
pub mod Inner
