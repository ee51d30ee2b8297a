pub mod Owned
pub mod Lent
pub mod Directory
