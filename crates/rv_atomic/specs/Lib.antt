-- The definitions that the contracts of `rv_atomic` cite.
pub mod Table
pub mod Means
pub mod Watch
pub mod Span
pub mod Combined
pub mod AtomicEffect
pub mod SharedEffect
pub mod History
pub mod Laws
pub mod Inner
