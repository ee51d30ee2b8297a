pub mod Agreement
pub mod Checking
pub mod Places
