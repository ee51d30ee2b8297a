-- What serves private contracts and proofs alone.
pub mod BoardChange
pub mod End
pub mod Fault
pub mod Hubs
pub mod Lending
pub mod Spares
pub mod Standing
pub mod Time
