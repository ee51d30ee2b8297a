-- The definitions that the contracts of `rv_exec` cite.
pub mod Word
pub mod Access
pub mod Compressed
pub mod Csr
pub mod Effect
pub mod Fetched
pub mod Inner
pub mod Laws
pub mod Outcome
