-- What the contracts of the CLINT and of the crates above it cite.
pub mod Clint
pub mod FirstChange
pub mod Laws
pub mod Mtime
